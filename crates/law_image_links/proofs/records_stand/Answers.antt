-- The laws of record types are the theorems of Records, Extends and Few.
use Rattle.law_image_links.proofs.Records as records
use Rattle.law_image_links.proofs.Extends as extends
use Rattle.law_image_links.proofs.Few as few
use Rattle.law_image_links.proofs.records_stand.Goals as goal

pub returns-clause-types : goal.returns-clause-types
returns-clause-types c = λ s builds more files rules declared. records.types_stand s builds more files rules declared

pub returns-clause-bases : goal.returns-clause-bases
returns-clause-bases c = λ s builds more files rules declared. record {
  lines = λ q line e. records.lines s builds more files rules declared line q e;
  extends = extends.extends s builds more files rules declared;
  tags = few.tags s builds more files;
}
