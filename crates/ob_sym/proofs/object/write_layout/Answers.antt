use Rattle.std.proofs.Common.{◌≡◌, true, false, Some, sym, ap, ◌∙◌, List, ℕ}
use Rattle.ob_sym.specs.Grammar.{object_of, object_in, has_layout}
use Rattle.ob_sym.proofs.Written.{layout_some, layout_small, none_adds, some_adds}
use Rattle.ob_sym.proofs.object.write_layout.Goals as goal

pub returns-then-not-is_record : goal.returns-then-not-is_record
returns-then-not-is_record c =
    let is : has_layout c.args.object.now.desc ≡ false = cc in
    none_adds (object_of c.args.«module».now c.args.object.now.name) c.args.object.now.desc c.args.out.now.items c.put_bytes.new.out.items is c.in_ok-put_bytes.ensures

pub write_desc-requires : goal.write_desc-requires
write_desc-requires c =
    let is : has_layout c.args.object.now.desc ≡ true = cc in
    layout_some (object_of c.args.«module».now c.args.object.now.name) c.args.object.now.desc is

pub write_text-requires : goal.write_text-requires
unfolding object_in
write_text-requires c = layout_small (object_of c.args.«module».now c.args.object.now.name) c.args.object.now.desc c.as_slice.result.now c.requires.within.1.1 (c.in_ok-text.ensures ∙ ap (λ (t : List ℕ). Some t) (sym c.as_slice.ensures))

pub returns : goal.returns
returns c = some_adds (object_of c.args.«module».now c.args.object.now.name) c.args.object.now.desc c.as_slice.result.now c.args.out.now.items c.put_bytes-2.new.out.items c.write_text.new.out.items (c.in_ok-text.ensures ∙ ap (λ (t : List ℕ). Some t) (sym c.as_slice.ensures)) c.in_ok-put_bytes-2.ensures c.in_ok-write_text.ensures
