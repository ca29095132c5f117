-- The room for globals.
use Rattle.law_headline.proofs.Room as room
use Rattle.law_headline.proofs.room_is_declared.Goals as goal

pub returns : goal.returns
returns c = room.room_is_declared
