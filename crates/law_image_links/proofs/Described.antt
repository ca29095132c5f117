-- A record type of a program is declared as one, in one of its modules.
use Rattle.std.proofs.Common.{◌≡◌, ℕ, zero, suc, List, [], ◌∷◌, ◌++◌, map, refl, sym, ap, ◌∙◌, subst, Option, Some, None}
use Rattle.std.specs.Prelude.{Bool, true, false, bytes_eq, unwrap_or, if◌then◌else◌}
use Rattle.std.proofs.lemmas.Option.{none-some}
use Rattle.ob_tree.specs.declared.names.QName.{QName}
use Rattle.ob_types.specs.declared.types.TypeRef.{TypeRef}
use Rattle.ob_types.specs.declared.types.TypeRef.TheVariants as ref
use Rattle.ob_types.specs.declared.types.Basic.TheVariants as basic
use Rattle.ob_types.specs.declared.desc.Desc.{Desc}
use Rattle.ob_types.specs.declared.desc.Desc.TheVariants as desc
use Rattle.ob_types.specs.declared.desc.RecordDesc.{RecordDesc}
use Rattle.ob_types.specs.declared.typed.TypedType.{TypedType}
use Rattle.ob_types.specs.TypedSyntax.{Module}
use Rattle.ob_meaning.specs.Values.{Program, Form, BasicForm, RecordForm, Fields, line_of, described, form_within, type_named, description}
use Rattle.law_simulation_relation.specs.Relation.{FreshModule, ModulesOk}
use Rattle.law_simulation_relation.proofs.Names.{bytes_same, bytes_true, bytes_sym}
use Rattle.law_image_code.specs.Descriptors.{named}
use Rattle.law_image_links.specs.Files.{Build}
use Rattle.law_image_links.specs.Standing.{IsIn}
use Rattle.law_image_links.specs.Records.{IsDeclaredRecord, IsDeclared, AreDeclared, AllDeclared}

-- WHAT IS A RECORD has the name of a record type

abbrev IsOne : (QName → Option Desc) → QName → Type 0
IsOne types q = (r : RecordDesc) × (types q ≡ Some (desc.Record r))

first_named : (p q : QName) (l k : List QName) (fs gs : Fields) → RecordForm (p ∷ l) fs ≡ RecordForm (q ∷ k) gs → p ≡ q
first_named p q l k fs gs e = ap (λ t. head p (line_of t)) e
  where
    head : QName → List QName → QName
    head d [] = d
    head d (x ∷ xs) = x

no_record : (t : Form) (q : QName) (l : List QName) (fs : Fields) → line_of t ≡ [] → t ≡ RecordForm (q ∷ l) fs → ⊥
no_record t q l fs e f = differ (sym e ∙ ap line_of f)
  where
    differ : [] ≡ q ∷ l → ⊥
    differ g = cc

pub record_named : (types : QName → Option Desc) (n : ℕ) (t : TypeRef) (q : QName) (l : List QName) (fs : Fields) → form_within types n t ≡ RecordForm (q ∷ l) fs → IsOne types q
record_named types zero (ref.Basic b) q l fs e = absurd (no_record (BasicForm b) q l fs refl e)
record_named types zero (ref.Named p) q l fs e = absurd (no_record (BasicForm basic.Boolean) q l fs refl e)
record_named types (suc n) (ref.Basic b) q l fs e = absurd (no_record (BasicForm b) q l fs refl e)
record_named types (suc n) (ref.Named p) q l fs e = go (types p) refl e (λ t f. record_named types n t q l fs f)
  where
    go : (o : Option Desc) → types p ≡ o → described (form_within types n) p o ≡ RecordForm (q ∷ l) fs → ((t : TypeRef) → form_within types n t ≡ RecordForm (q ∷ l) fs → IsOne types q) → IsOne types q
    go (Some (desc.Alias m t)) f g more = more t g
    go (Some (desc.Array m k t)) f g more = absurd (no_record _ q l fs refl g)
    go (Some (desc.OpenArray m t)) f g more = absurd (no_record _ q l fs refl g)
    go (Some (desc.Pointer m t)) f g more = absurd (no_record _ q l fs refl g)
    go (Some (desc.ProcType m s)) f g more = absurd (no_record _ q l fs refl g)
    go (Some (desc.Record r)) f g more = (r, subst (λ x. types x ≡ Some (desc.Record r)) (first_named p q _ l _ fs g) f)
    go (Some (desc.Const v)) f g more = absurd (no_record _ q l fs refl g)
    go (Some (desc.Var m t)) f g more = absurd (no_record _ q l fs refl g)
    go (Some (desc.Proc s)) f g more = absurd (no_record _ q l fs refl g)
    go None f g more = absurd (no_record _ q l fs refl g)

-- IN WHICH MODULE

abbrev pub units : List Build → List Module
units bs = map (λ b. b.unit) bs

pub in_more : (a : Build) (bs : List Build) (b : Build) → IsIn bs b → IsIn (a ∷ bs) b
in_more a bs b i = record { front = a ∷ i.front; back = i.back; is = ap (λ l. a ∷ l) i.is }

pub record Declares (bs : List Build) (q : QName) (r : RecordDesc) : Type 0 where
  pub build : Build
  pub among : IsIn bs build
  pub module_is : q.«module» ≡ build.unit.name
  pub declared : type_named build.unit.types q.object ≡ Some (desc.Record r)

pub declared_in : (bs : List Build) (q : QName) (r : RecordDesc) → description (units bs) q ≡ Some (desc.Record r) → Declares bs q r
declared_in [] q r e = absurd (none-some _ e)
declared_in (b ∷ bs) q r e = go (bytes_eq q.module b.unit.name) refl e (λ f. declared_in bs q r f)
  where
    go : (t : Bool) → bytes_eq q.module b.unit.name ≡ t → (if t then type_named b.unit.types q.object else description (units bs) q) ≡ Some (desc.Record r) → (description (units bs) q ≡ Some (desc.Record r) → Declares bs q r) → Declares (b ∷ bs) q r
    go true f e more = record { build = b; among = record { front = []; back = bs; is = refl }; module_is = bytes_true q.module b.unit.name f; declared = e }
    go false f e more = let m = more e in record { build = m.build; among = in_more b bs m.build m.among; module_is = m.module_is; declared = m.declared }

fresh_at : (x : List ℕ) (front : List Module) (m : Module) (back : List Module) → FreshModule x (front ++ m ∷ back) → bytes_eq x m.name ≡ false
fresh_at x [] m back f = f.0
fresh_at x (k ∷ front) m back f = fresh_at x front m back f.1

-- what a module declares is what the program has by that name
pub description_here : (program : Program) (front : List Module) (m : Module) (back : List Module) (x : List ℕ) → ModulesOk program (front ++ m ∷ back) → description (front ++ m ∷ back) (named m.name x) ≡ type_named m.types x
description_here program [] m back x ok = ap (λ b. if b then type_named m.types x else description back (named m.name x)) (bytes_same m.name)
description_here program (k ∷ front) m back x ok = ap (λ b. if b then type_named k.types x else description (front ++ m ∷ back) (named m.name x)) (bytes_sym m.name k.name ∙ fresh_at k.name front m back ok.0) ∙ description_here program front m back x ok.1.1

-- WHAT IS DECLARED is what the rules owe

pub is_declared : (program : Program) (types : QName → Option Desc) (m : List ℕ) (ts : List TypedType) (x : List ℕ) (r : RecordDesc) → AreDeclared program types m ts → type_named ts x ≡ Some (desc.Record r) → IsDeclaredRecord program types (named m x) r
is_declared program types m [] x r h e = absurd (none-some _ e)
is_declared program types m (t ∷ ts) x r h e = go (bytes_eq x t.name) refl e (λ f. is_declared program types m ts x r h.1 f)
  where
    inside : (a b : Desc) → Some a ≡ Some b → a ≡ b
    inside a b f = ap (λ o. unwrap_or o a) f

    go : (b : Bool) → bytes_eq x t.name ≡ b → (if b then Some t.desc else type_named ts x) ≡ Some (desc.Record r) → (type_named ts x ≡ Some (desc.Record r) → IsDeclaredRecord program types (named m x) r) → IsDeclaredRecord program types (named m x) r
    go true f e more = subst (λ y. IsDeclaredRecord program types (named m y) r) (sym (bytes_true x t.name f)) (subst (λ d. IsDeclared program types (named m t.name) d) (inside t.desc (desc.Record r) e) h.0)
    go false f e more = more e

pub all_declared_at : (program : Program) (front : List Build) (b : Build) (back : List Build) → AllDeclared program (front ++ b ∷ back) → AreDeclared program b.types b.unit.name b.unit.types
all_declared_at program [] b back h = h.0
all_declared_at program (a ∷ front) b back h = all_declared_at program front b back h.1
