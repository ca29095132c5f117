-- The constants and the lengths of arrays of a checked module are in range.
use Rattle.std.proofs.Common.{◌≡◌, ℕ, ◌<◌, ◌^◌, true, List, [], ◌∷◌, arith}
use Rattle.std.specs.Prelude.{ℤ, pos, negsuc, FitsSigned}
use Rattle.std.specs.Int.{w32}
use Rattle.std.specs.List.{AllByRecursion}
use Rattle.ob_types.specs.declared.typed.Width.TheVariants as width
use Rattle.ob_types.specs.declared.value.Value.{Value}
use Rattle.ob_types.specs.declared.value.Value.TheVariants as literal
use Rattle.ob_types.specs.declared.typed.TypedConstant.{TypedConstant}
use Rattle.ob_desc.specs.Grammar.{IsByte}
use Rattle.ob_types.specs.Numbers.{is_in}
use Rattle.law_simulation_relation.specs.Typed.{AreCharacters}
use Rattle.ob_types.specs.declared.desc.Desc.{Desc}
use Rattle.ob_types.specs.declared.desc.Desc.TheVariants as desc
use Rattle.ob_types.specs.declared.typed.TypedType.{TypedType}
use Rattle.ob_env.specs.Shown.{shown}
use Rattle.law_typing.specs.Known.{ConstantIs}
use Rattle.law_body_context.specs.Knows.{LengthIs, IsDescribed}
use Rattle.law_names_procedures.proofs.Faces.{faces_show}
use Rattle.law_names_procedures.proofs.Texts.{headings_are_named}
use Rattle.law_body_context.proofs.Whole.{bodies_known}
use Rattle.law_body_context.proofs.Expressions.{constants_stand}
use Rattle.law_spelling_read.proofs.Trees.{readings_spelled}
use Rattle.law_spelling.specs.Seen.{LengthFits, ValueFits}
use Rattle.law_spelling_values.specs.Laws.{ModulesAreInRange}
use Rattle.law_spelling_values.proofs.Shown.{spelled_shown}
use Rattle.law_lists.proofs.Lists.{less}

length_fits : (d : Desc) → LengthIs ConstantIs d → LengthFits d
length_fits (desc.Const v) h = tt
length_fits (desc.Var m t) h = tt
length_fits (desc.Proc s) h = tt
length_fits (desc.Alias m t) h = tt
length_fits (desc.Array m n t) h = less n (2 ^ 31) h.0
length_fits (desc.OpenArray m t) h = tt
length_fits (desc.Pointer m t) h = tt
length_fits (desc.ProcType m s) h = tt
length_fits (desc.Record r) h = tt

lengths_fit : (ts : List TypedType) → AllByRecursion (IsDescribed ConstantIs) ts → AllByRecursion (λ t. LengthFits t.desc) ts
lengths_fit [] h = tt
lengths_fit (t ∷ ts) h = (length_fits t.desc h.0.length, lengths_fit ts h.1)

-- ---- values

int_fits : (z : ℤ) → is_in width.LongInt z ≡ true → FitsSigned w32 z
int_fits (pos n) h = let k = less n (2 ^ 31) h in record { sfits = omega (arith, k) }
int_fits (negsuc n) h = let k = less n (2 ^ 31) h in record { sfits = omega (arith, k) }

bytes_are : (cs : List ℕ) → AreCharacters cs → AllByRecursion IsByte cs
bytes_are [] h = tt
bytes_are (c ∷ cs) h = (h.0, bytes_are cs h.1)

value_fits : (v : Value) → ConstantIs v → ValueFits v
value_fits (literal.Bool b) h = tt
value_fits (literal.Char c) h = let k : c < 2 ^ 32 = omega (arith, h) in (k, h)
value_fits (literal.Int z) h = int_fits z h
value_fits (literal.Set n) h = h
value_fits (literal.Str text) h = (bytes_are text h.0, h.1)
value_fits literal.Nil h = tt

values_fit : (cs : List TypedConstant) → AllByRecursion (λ c. ConstantIs c.value) cs → AllByRecursion (λ c. ValueFits c.value) cs
values_fit [] h = tt
values_fit (c ∷ cs) h = (value_fits c.value h.0, values_fit cs h.1)

pub modules_in_range : ModulesAreInRange
modules_in_range faces spelled text tree read others apart fit m is =
    let all = bodies_known (shown faces) tree m is (readings_spelled text tree read) (faces_show tree.name.name faces apart fit) (headings_are_named text tree read) others (constants_stand tree.name.name (shown faces) (spelled_shown faces spelled)) in
    record { constants = values_fit m.constants all.constants; lengths = lengths_fit m.types all.types }
