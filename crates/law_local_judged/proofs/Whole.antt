-- The laws.
use Rattle.std.proofs.Common.{◌≡◌, [], map, true}
use Rattle.law_local_judged.specs.Laws.{NamesAgree, ExpressionsAgree, DesignatorsAgree, ConstantsAgree, StatementsAgree, WrittenAgree, DeclarationsAgree, HeadingsAgree, CountedIsSaid, BindingsAgree, ForwardsAgree, LaterAgrees, BodiesAgree}
use Rattle.ob_rules.specs.Expressions.{phrase_of, named_of}
use Rattle.law_local_judged.proofs.Names.{type_named_follows}
use Rattle.law_local_judged.proofs.Nodes.{meant_follows}
use Rattle.ob_rules.specs.Statements.{judging}
use Rattle.law_local_judged.proofs.Bodies.{in_turn_follows}
use Rattle.law_local_judged.proofs.Statements.{stmts_follow}
use Rattle.law_local_judged.proofs.Written.{written_follows}
use Rattle.law_local_judged.proofs.Declaring.{order_same}
use Rattle.law_local_judged.proofs.Heading.{headings_same, body_agrees}
use Rattle.ob_rules.specs.Names.{map_of}
use Rattle.law_local_judged.specs.Followed.{beside}
use Rattle.law_local_judged.proofs.Names.{maps_agree}
use Rattle.law_local_judged.proofs.Binding.{bindings_same, forwards_same}
use Rattle.law_local_judged.proofs.Later.{pointers_same, fields_same}
use Rattle.ob_types.specs.TypedView.{module_view}
use Rattle.ob_uses_roots.specs.Counts.{counts_of_module}
use Rattle.law_local_judged.proofs.Counted.{starts_in, module_in}
use Rattle.law_local_judged.proofs.Expressions.{expr_follows, designator_of_follows, constant_value_follows}

pub names_agree : NamesAgree
names_agree names u s a q = type_named_follows (λ q. names q ≡ true) u s a q

pub expressions_agree : ExpressionsAgree
expressions_agree names u s a e = (expr_follows (λ q. names q ≡ true) u s a e).value

pub designators_agree : DesignatorsAgree
designators_agree names u s a w d = meant_follows (λ q. names q ≡ true) u s a w (named_of d) (designator_of_follows (λ q. names q ≡ true) u s a d)

pub constants_agree : ConstantsAgree
constants_agree names u s a e = constant_value_follows (λ q. names q ≡ true) u s a (phrase_of e) (expr_follows (λ q. names q ≡ true) u s a e)

pub statements_agree : StatementsAgree
statements_agree names u s a xs = in_turn_follows (λ q. names q ≡ true) (map judging xs) (stmts_follow (λ q. names q ≡ true) xs) u s a

pub written_agree : WrittenAgree
written_agree names u s a own n name m b = written_follows (λ q. names q ≡ true) n u s a own name m b

pub declarations_agree : DeclarationsAgree
declarations_agree names u s a own fs p quiet said h = order_same (λ q. names q ≡ true) s fs p u a own quiet said h

pub headings_agree : HeadingsAgree
headings_agree names u s a own ps g k = headings_same (λ q. names q ≡ true) s ps g (record { around = u; before = [] }) a own tt k

pub counted_is_said : CountedIsSaid
counted_is_said names map m h = module_in (λ q. names q ≡ true) map m (starts_in (λ q. names q ≡ true) (counts_of_module map (module_view m)) h)

pub bindings_agree : BindingsAgree
bindings_agree names u s a hs h k = bindings_same (λ q. names q ≡ true) s u a hs h k

pub forwards_agree : ForwardsAgree
forwards_agree names u s a hs h = forwards_same (λ q. names q ≡ true) (map_of u) (map_of (beside u s)) (maps_agree (λ q. names q ≡ true) u s a) hs hs h h

pub later_agrees : LaterAgrees
later_agrees names u s a ls h = (pointers_same (λ q. names q ≡ true) u s a ls h, fields_same (λ q. names q ≡ true) u s a ls h)

pub bodies_agree : BodiesAgree
bodies_agree names u s a h i = body_agrees (λ q. names q ≡ true) s u a h i
