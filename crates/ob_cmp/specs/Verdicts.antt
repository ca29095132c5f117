-- Two interfaces side by side.
use Rattle.std.specs.Prelude.{ℕ, Bool, true, false, List, [], ◌∷◌, ◌++◌, map as each, length, Option, Some, None, bytes_eq, codes, decimal}
use Rattle.std.specs.Option.{option_map}
use Rattle.std.specs.List.{flat_map, filter}
use Rattle.std.specs.Ordering.{nat_cmp}
use Rattle.std.specs.Cmp.Lexicographic.{slice_cmp}
use Rattle.ob_tree.specs.declared.names.QName.{QName}
use Rattle.ob_types.specs.declared.desc.Desc.{Desc}
use Rattle.ob_desc.specs.Grammar.{shape_text, layout_text}
use Rattle.ob_cmp.specs.declared.verdict.Kind.{Kind}
use Rattle.ob_cmp.specs.declared.verdict.Kind.TheVariants as kind
use Rattle.ob_cmp.specs.declared.verdict.Verdict.{Verdict}
use Rattle.ob_layout.specs.Lists.{in_order}
use Rattle.ob_env.specs.Faces.{Face, object_named}

-- the shape text, and the layout text of a record
abbrev pub Texts : Type 0
Texts = List ℕ × Option (List ℕ)

-- the texts of the object of that name among the objects of the module m
abbrev pub texts_in : List ℕ → List (List ℕ × Desc) → List ℕ → Option Texts
texts_in m os x =
    let q : QName = record { «module» = m; object = x } in
    option_map (λ d. (shape_text q d, layout_text q d)) (object_named os x)

abbrev pub layouts_agree : Option (List ℕ) → Option (List ℕ) → Bool
layouts_agree None None = true
layouts_agree None (Some b) = false
layouts_agree (Some a) None = false
layouts_agree (Some a) (Some b) = bytes_eq a b

abbrev pub unless : Bool → Kind → List Kind
unless true k = []
unless false k = k ∷ []

abbrev pub text_kinds : (shape : List ℕ) (layout : Option (List ℕ)) (shape' : List ℕ) (layout' : Option (List ℕ)) → List Kind
text_kinds s l s' l' = unless (bytes_eq s s') kind.ShapeChanged ++ unless (layouts_agree l l') kind.LayoutChanged

-- Added where only the second has the name, Gone where only the first has it; else what of their texts differs
abbrev pub kinds_between : Option Texts → Option Texts → List Kind
kinds_between None None = []
kinds_between None (Some b) = kind.Added ∷ []
kinds_between (Some a) None = kind.Gone ∷ []
kinds_between (Some a) (Some b) = text_kinds a.0 a.1 b.0 b.1

abbrev pub kinds_in : List ℕ → List (List ℕ × Desc) → List ℕ → List (List ℕ × Desc) → List ℕ → List Kind
kinds_in m os n ns x = kinds_between (texts_in m os x) (texts_in n ns x)

-- the names that either has, ascending
abbrev pub names_in : List (List ℕ × Desc) → List (List ℕ × Desc) → List (List ℕ)
names_in os ns = in_order (slice_cmp nat_cmp) (each (λ o. o.0) os ++ each (λ o. o.0) ns)

abbrev pub verdict_of : List ℕ → Kind → Verdict
verdict_of x k = record { object = x; kind = k }

abbrev pub verdicts_in : List ℕ → List (List ℕ × Desc) → List ℕ → List (List ℕ × Desc) → List Verdict
verdicts_in m os n ns = flat_map (λ x. each (verdict_of x) (kinds_in m os n ns x)) (names_in os ns)

-- THE VERDICTS, by name and kind
abbrev pub verdicts : {K : Type 0} → Face K → Face K → List Verdict
verdicts old new = verdicts_in old.«module» old.objects new.«module» new.objects

-- ---- texts

abbrev pub kind_text : Kind → List ℕ
kind_text kind.Added = codes "added"
kind_text kind.Gone = codes "gone"
kind_text kind.ShapeChanged = codes "shape changed"
kind_text kind.LayoutChanged = codes "layout changed"

abbrev pub verdict_line : Verdict → List ℕ
verdict_line v = v.object ++ codes " " ++ kind_text v.kind ++ codes "\n"

-- what the line `compare F G` prints
abbrev pub compare_text : List ℕ → List ℕ → List Verdict → List ℕ
compare_text f g vs = codes "compare " ++ f ++ codes " " ++ g ++ codes ": " ++ decimal (length vs) ++ codes " verdicts\n" ++ flat_map verdict_line vs

-- ---- what a compile says of the interface that it makes, beside the one that stood there

abbrev pub is_new : List Kind → Bool
is_new (kind.Added ∷ ks) = true
is_new ks = false

abbrev pub is_gone : List Kind → Bool
is_gone (kind.Gone ∷ ks) = true
is_gone ks = false

abbrev pub is_changed : List Kind → Bool
is_changed (kind.ShapeChanged ∷ ks) = true
is_changed (kind.LayoutChanged ∷ ks) = true
is_changed ks = false

abbrev pub count_where : {K : Type 0} → (List Kind → Bool) → Face K → Face K → ℕ
count_where p old new = length (filter (λ x. p (kinds_in old.«module» old.objects new.«module» new.objects x)) (names_in old.objects new.objects))

-- an interface without objects, in place of one that is not there
abbrev pub no_face : {K : Type 0} → List ℕ → Face K
no_face m = record { «module» = m; imports = []; objects = []; uses = [] }

abbrev pub compiled_text : {K : Type 0} → Face K → Face K → List ℕ
compiled_text old new =
    codes "compiled " ++ new.«module» ++ codes ": " ++ decimal (length new.objects) ++ codes " objects, " ++ decimal (count_where is_new old new) ++ codes " new, "
    ++ decimal (count_where is_changed old new) ++ codes " changed, " ++ decimal (count_where is_gone old new) ++ codes " gone\n"
