-- The fields of the records of a program have different names, also where they are laid out; and nothing is declared of Out.
use Rattle.std.proofs.Common.{◌≡◌, ◌≢◌, ℕ, ◌+◌, Bool, true, false, List, [], ◌∷◌, ◌++◌, map, Option, Some, None, refl, sym, ap, subst, ◌∙◌}
use Rattle.std.specs.Prelude.{bytes_eq, if◌then◌else◌, codes, MatchOption}
use Rattle.std.specs.List.{AllByRecursion}
use Rattle.ob_tree.specs.declared.names.QName.{QName}
use Rattle.ob_types.specs.declared.types.TypeRef.{TypeRef}
use Rattle.ob_types.specs.declared.desc.Desc.{Desc}
use Rattle.ob_types.specs.declared.desc.Desc.TheVariants as desc
use Rattle.ob_types.specs.declared.desc.RecordDesc.{RecordDesc}
use Rattle.ob_types.specs.declared.desc.Field.{Field}
use Rattle.ob_types.specs.declared.typed.TypedType.{TypedType}
use Rattle.ob_types.specs.TypedSyntax.{Module}
use Rattle.ob_types.specs.TypedView.{module_view}
use Rattle.ob_meaning.specs.Values.{Program, type_named, description}
use Rattle.law_simulation_relation.proofs.Names.{bytes_sym}
use Rattle.ob_layout.specs.LaidOut.{base_of, words_in, procedures_in, placed, laid_desc, laid_type}
use Rattle.ob_env.specs.Faces.{described}
use Rattle.ob_rules.specs.Names.{is_out, out_string}
use Rattle.law_typing_forms.specs.Said.{IsFreshName, HaveNames}
use Rattle.ob_compile_model.specs.Compiling.{Compiled}
use Rattle.law_names_distinct.specs.Distinct.{AreDistinct}
use Rattle.law_names_distinct.specs.Fields.{FieldsDiffer, AreApart}
use Rattle.law_names_distinct.proofs.Blocks.{not_out}
use Rattle.law_names_distinct.proofs.FieldBlocks.{fields_differ}
use Rattle.ob_builds.specs.Builds.{Text, Build, IsValid, of, tree_of, name_of}
use Rattle.ob_builds.specs.Afresh.{IsBehind, AreTogether}
use Rattle.law_program_runs.specs.Builds.{program_of}
use Rattle.law_program_names.specs.Sizes.{FieldsHaveNames, NothingOfOut}
use Rattle.law_program_names.proofs.Different.{build_comes}

-- ---- fields with their places

fresh_placed : (words : TypeRef → ℕ) (n : ℕ) (x : List ℕ) (fs : List Field) → AllByRecursion (λ f. f.name ≢ x) fs → IsFreshName x (placed words n fs)
fresh_placed words n x [] h = tt
fresh_placed words n x (f ∷ fs) h = (λ e. h.0 (sym e), fresh_placed words (n + words f.of) x fs h.1)

names_placed : (words : TypeRef → ℕ) (n : ℕ) (fs : List Field) → AreDistinct (λ f. f.name) fs → HaveNames (placed words n fs)
names_placed words n [] h = tt
names_placed words n (f ∷ fs) h = (fresh_placed words (n + words f.of) f.name fs h.0, names_placed words (n + words f.of) fs h.1)

-- ---- of what a module declares

abbrev HasNames : Desc → Type 0
HasNames (desc.Record r) = HaveNames r.fields
HasNames d = Unit {0}

laid_names : (words procedures : TypeRef → ℕ) (q : QName) (d : Desc) → FieldsDiffer d → HasNames (laid_desc words procedures q d)
laid_names words procedures q (desc.Const v) h = tt
laid_names words procedures q (desc.Var m t) h = tt
laid_names words procedures q (desc.Proc s) h = tt
laid_names words procedures q (desc.Alias m t) h = tt
laid_names words procedures q (desc.Array m n t) h = tt
laid_names words procedures q (desc.OpenArray m t) h = tt
laid_names words procedures q (desc.Pointer m t) h = tt
laid_names words procedures q (desc.ProcType m s) h = tt
laid_names words procedures q (desc.Record r) h = names_placed words (base_of words r.base) r.fields h

all_laid : (types : QName → Option Desc) (m : Module) (ts : List TypedType) → AreApart ts → AllByRecursion (λ t. HasNames t.desc) (map (laid_type types m) ts)
all_laid types m [] h = tt
all_laid types m (t ∷ ts) h = (laid_names (words_in types m) (procedures_in types m) (record { «module» = m.name; object = t.name }) t.desc h.0, all_laid types m ts h.1)

build_names : (b : Build) (c : Compiled Text) → IsValid b c → AllByRecursion (λ t. HasNames t.desc) (tree_of b).types
build_names b c v =
    let k = build_comes b c v in
    subst (λ (x : Compiled Text). AllByRecursion (λ (t : TypedType). HasNames t.desc) x.tree.types) (sym k.is) (all_laid (described (of b).against) (module_view k.module_is) k.module_is.types (fields_differ _ k.tree k.module_is k.checked_is))

-- ---- of a program

found_names : (ts : List TypedType) (x : List ℕ) (d : Desc) → AllByRecursion (λ t. HasNames t.desc) ts → type_named ts x ≡ Some d → HasNames d
found_names [] x d h e = absurd cc
found_names (t ∷ ts) x d h e = by (bytes_eq x t.name) e (λ e. found_names ts x d h.1 e)
  where
    by : (b : Bool) → (if b then Some t.desc else type_named ts x) ≡ Some d → (type_named ts x ≡ Some d → HasNames d) → HasNames d
    by true e r = let k : t.desc ≡ d = cc in subst HasNames k h.0
    by false e r = r e

described_names : (before bs : List Build) → AreTogether before bs → (q : QName) (d : Desc) → description (program_of bs) q ≡ Some d → HasNames d
described_names before [] h q d e = absurd cc
described_names before (b ∷ bs) h q d e = by (bytes_eq q.module (tree_of b).name) e (λ e. described_names (before ++ b ∷ []) bs h.1 q d e)
  where
    by : (x : Bool) → (if x then type_named (tree_of b).types q.object else description (program_of bs) q) ≡ Some d → (description (program_of bs) q ≡ Some d → HasNames d) → HasNames d
    by true e r = found_names (tree_of b).types q.object d (build_names b h.0.valid.0 h.0.valid.1) e
    by false e r = r e

pub fields_have_names : FieldsHaveNames
fields_have_names bs h q r e = described_names [] bs h.together q (desc.Record r) e

-- ---- Out

named_other : (b : Build) (c : Compiled Text) → IsValid b c → bytes_eq (codes "Out") (tree_of b).name ≡ false
named_other b c v =
    let k = build_comes b c v in
    bytes_sym (codes "Out") (tree_of b).name ∙ subst (λ (x : Compiled Text). is_out x.tree.name ≡ false) (sym k.is) (not_out _ k.tree k.module_is k.checked_is)

none_of_out : (before bs : List Build) → AreTogether before bs → description (program_of bs) out_string ≡ None
none_of_out before [] h = refl
none_of_out before (b ∷ bs) h = ap (λ (x : Bool). if x then type_named (tree_of b).types out_string.object else description (program_of bs) out_string) (named_other b h.0.valid.0 h.0.valid.1) ∙ none_of_out (before ++ b ∷ []) bs h.1

pub nothing_of_out : NothingOfOut
nothing_of_out bs h = none_of_out [] bs h.together
