-- Parts whose notes are written down already.
use Rattle.std.specs.Prelude.{List, [], ◌∷◌, ◌++◌, Option, Some, None}
use Rattle.ob_tree.specs.declared.pos.Pos.{Pos}
use Rattle.ob_types.specs.declared.types.TypeRef.{TypeRef}
use Rattle.ob_types.specs.declared.value.Value.{Value}
use Rattle.ob_rules.specs.declared.values.Valued.{Valued}
use Rattle.ob_rules.specs.declared.broken.Rule.TheVariants as rule
use Rattle.ob_rules.specs.Judged.{Judged, no_notes, sound, breaks}
use Rattle.ob_rules.specs.Values.{constant}

abbrev pub plain : {A : Type 0} → Option A → Judged A
plain o = record { node = o; notes = no_notes }

-- a literal of that value, if it has one
abbrev pub literal_judged : Pos → Option Value → Judged Valued
literal_judged at None = breaks rule.LiteralTooLarge at
literal_judged at (Some v) = sound (constant v)

-- what a row comes to with more of it
abbrev pub onto : {A : Type 0} → Option (List A) → Option (List A) → Option (List A)
onto None ys = None
onto (Some xs) None = None
onto (Some xs) (Some ys) = Some (xs ++ ys)

abbrev pub alone : {A : Type 0} → Option A → Option (List A)
alone None = None
alone (Some x) = Some (x ∷ [])

abbrev pub first_of : {A : Type 0} → List A → Option A
first_of [] = None
first_of (x ∷ xs) = Some x

-- no type is named
abbrev pub none_named : Judged (Option TypeRef)
none_named = sound None
