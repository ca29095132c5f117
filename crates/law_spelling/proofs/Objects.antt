-- The objects of an interface have texts.
use Rattle.std.proofs.Common.{◌≡◌, ℕ, ◌<◌, ◌^◌, Bool, true, List, ◌++◌, map, refl, arith}
use Rattle.std.specs.List.{AllByRecursion, filter}
use Rattle.std.specs.List.Sorted.{IsStrictlySortedBy}
use Rattle.std.specs.Cmp.{IsTotalOrder}
use Rattle.std.proofs.lemmas.Cmp.{nat_list_cmp_total, on_total}
use Rattle.std.proofs.lemmas.Bool.{false≢true}
use Rattle.std.proofs.lemmas.List.Kept.{IsStrictlySortedBy-filter}
use Rattle.ob_tree.specs.declared.names.QName.{QName}
use Rattle.ob_tree.specs.declared.ident.Mark.{Mark}
use Rattle.ob_tree.specs.declared.ident.Mark.TheVariants as mark
use Rattle.ob_types.specs.declared.desc.Desc.{Desc}
use Rattle.ob_types.specs.declared.desc.Desc.TheVariants as desc
use Rattle.ob_types.specs.declared.desc.Field.{Field}
use Rattle.ob_types.specs.declared.desc.Method.{Method}
use Rattle.ob_types.specs.declared.typed.TypedConstant.{TypedConstant}
use Rattle.ob_types.specs.declared.typed.TypedVariable.{TypedVariable}
use Rattle.ob_types.specs.declared.typed.TypedType.{TypedType}
use Rattle.ob_types.specs.TypedSyntax.{Procedure, Module}
use Rattle.ob_format.specs.Names.{is_object, object_name}
use Rattle.ob_desc.specs.Grammar.{value_fits, type_fits, field, method, is_shown, by_place, by_number, seen, IsSpelled}
use Rattle.ob_layout.specs.Lists.{in_order}
use Rattle.law_methods_described.specs.Described.{is_whole}
use Rattle.ob_uses.specs.Objects.{is_exported, by_name, constant_object, variable_object, procedure_object, in_places, type_object, types_among, reached_types, objects_of}
use Rattle.law_spelling.specs.Trees.{IsNamed, FieldIsSpelled, MethodIsSpelled, TypeIsSpelled, ConstantIsSpelled, VariableIsSpelled, ProcedureIsSpelled, TypedTypeIsSpelled, IsLaid}
use Rattle.law_spelling.proofs.Lists.{all_filtered, all_in_order, order_strict}
use Rattle.law_spelling.proofs.Laid.{places_total}
use Rattle.law_spelling.proofs.Names.{named_object, object_fits, is_object_of}
use Rattle.law_lists.proofs.Lists.{all_both, all_each, all_from, all_pairs}

-- ---- members of a record

field_fits : (f : Field) → is_shown f.mark ≡ true → FieldIsSpelled f → f.place < 2 ^ 31 → field.fits f
unfolding field
field_fits f m h l = (h.0, ((tt, m), ((omega (arith, l), l), h.1)))

full_if : (m : Mark) → is_whole m ≡ true → is_shown m ≡ true → m ≡ mark.Full
full_if mark.Full e s = refl
full_if mark.ReadOnly e s = absurd (false≢true e)
full_if mark.Hidden e s = absurd (false≢true s)

method_fits : (p : Method) → is_shown p.mark ≡ true → MethodIsSpelled p → p.number < 2 ^ 31 → method.fits p
unfolding method
method_fits p m h l = ((h.name, ((omega (arith, l), l), (tt, h.signature_is))), full_if p.mark h.mark m)

fields_fit : (fs : List Field) → AllByRecursion FieldIsSpelled fs → AllByRecursion (λ f. f.place < 2 ^ 31) fs → AllByRecursion field.fits (filter (λ f. is_shown f.mark) fs)
fields_fit fs h k = all_filtered (λ f. is_shown f.mark) field.fits fs (all_from (λ f. FieldIsSpelled f × (f.place < 2 ^ 31)) (λ f. is_shown f.mark ≡ true → field.fits f) (λ f b e. field_fits f e b.0 b.1) fs (all_pairs FieldIsSpelled (λ f. f.place < 2 ^ 31) fs h k))

methods_fit : (ps : List Method) → AllByRecursion MethodIsSpelled ps → AllByRecursion (λ p. p.number < 2 ^ 31) ps → AllByRecursion method.fits (filter (λ p. is_shown p.mark) ps)
methods_fit ps h k = all_filtered (λ p. is_shown p.mark) method.fits ps (all_from (λ p. MethodIsSpelled p × (p.number < 2 ^ 31)) (λ p. is_shown p.mark ≡ true → method.fits p) (λ p b e. method_fits p e b.0 b.1) ps (all_pairs MethodIsSpelled (λ p. p.number < 2 ^ 31) ps h k))

-- ---- objects

module _ (q : QName) (named : IsNamed q.«module») (object : is_object q.object ≡ true) where
  type_spelled : (d : Desc) → TypeIsSpelled d → IsLaid d → IsSpelled q (seen (in_places d))
  type_spelled (desc.Const v) h k = absurd h
  type_spelled (desc.Var m t) h k = absurd h
  type_spelled (desc.Proc s) h k = absurd h
  type_spelled (desc.Alias m t) h k = record { shape = (((named, object), tt), h); layout = tt }
  type_spelled (desc.Array m n t) h k = record { shape = (((named, object), (tt, ((omega (arith, h.1), h.1), h.0))), h.2); layout = tt }
  type_spelled (desc.OpenArray m t) h k = record { shape = (((named, object), tt), h); layout = tt }
  type_spelled (desc.Pointer m t) h k = record { shape = (((named, object), tt), h); layout = tt }
  type_spelled (desc.ProcType m s) h k = record { shape = (((named, object), tt), h); layout = tt }
  type_spelled (desc.Record r) h k = record {
    shape = (
      ((named, object), (tt, h.base)),
      (
        (fields_fit (in_order by_place r.fields) (all_in_order by_place FieldIsSpelled r.fields h.fields) (all_in_order by_place (λ f. f.place < 2 ^ 31) r.fields k.places), methods_fit r.methods h.methods k.numbers),
        (IsStrictlySortedBy-filter by_place (λ f. is_shown f.mark) (in_order by_place r.fields) (order_strict places_total r.fields), IsStrictlySortedBy-filter by_number (λ p. is_shown p.mark) r.methods k.methods),
      ),
    );
    layout = (k.words, k.procedures);
  }

  constant_spelled : (c : TypedConstant) → value_fits c.value → IsSpelled q (desc.Const c.value)
  constant_spelled c h = record { shape = ((named, object), h); layout = tt }

  variable_spelled : (v : TypedVariable) → IsNamed q.object → type_fits v.of → IsSpelled q (desc.Var v.mark v.of)
  variable_spelled v n h = record { shape = ((((named, object), n), tt), h); layout = tt }

-- an object by its name
pub record ObjectFits (m : List ℕ) (x : List ℕ) (d : Desc) : Type 0 where
  pub name : object_name.fits x
  pub spelled : IsSpelled (record { «module» = m; object = x }) d

module _ (m : Module) (named : IsNamed m.name) where
  abbrev q_of : List ℕ → QName
  q_of x = record { «module» = m.name; object = x }

  abbrev Fits : List ℕ × Desc → Type 0
  Fits o = ObjectFits m.name o.0 o.1

  constants_fit : (cs : List TypedConstant) → AllByRecursion ConstantIsSpelled cs → AllByRecursion Fits (map constant_object cs)
  constants_fit cs h = all_each constant_object Fits cs (all_from ConstantIsSpelled (λ c. Fits (constant_object c)) (λ c k. record { name = object_fits c.name k.0; spelled = constant_spelled (q_of c.name) named (named_object c.name k.0) c k.1 }) cs h)

  variables_fit : (vs : List TypedVariable) → AllByRecursion VariableIsSpelled vs → AllByRecursion Fits (map variable_object vs)
  variables_fit vs h = all_each variable_object Fits vs (all_from VariableIsSpelled (λ v. Fits (variable_object v)) (λ v k. record { name = object_fits v.name k.0; spelled = variable_spelled (q_of v.name) named (named_object v.name k.0) v k.0 k.1 }) vs h)

  one_procedure : (p : Procedure) → ProcedureIsSpelled p → is_exported p ≡ true → Fits (procedure_object p)
  one_procedure p h e = let k = h e in record { name = object_fits p.name k.0; spelled = record { shape = (((named, named_object p.name k.0), k.0), k.1); layout = tt } }

  procedures_fit : (ps : List Procedure) → AllByRecursion ProcedureIsSpelled ps → AllByRecursion Fits (map procedure_object (filter is_exported ps))
  procedures_fit ps h = all_each procedure_object Fits (filter is_exported ps) (all_filtered is_exported (λ p. Fits (procedure_object p)) ps (all_from ProcedureIsSpelled (λ p. is_exported p ≡ true → Fits (procedure_object p)) one_procedure ps h))

  one_type : (t : TypedType) → TypedTypeIsSpelled t × IsLaid t.desc → Fits (type_object t)
  one_type t k = record { name = k.0.0; spelled = type_spelled (q_of t.name) named (is_object_of t.name k.0.0) t.desc k.0.1 k.1 }

  abbrev kept_of : {A : Type 0} (P : A → Type 0) (test : A → Bool) (xs : List A) → AllByRecursion P xs → AllByRecursion P (filter test xs)
  kept_of P test xs h = all_filtered test P xs (all_from P (λ x. test x ≡ true → P x) (λ x k e. k) xs h)

  types_fit : AllByRecursion TypedTypeIsSpelled m.types → AllByRecursion (λ t. IsLaid t.desc) m.types → AllByRecursion Fits (map type_object (types_among m (reached_types m)))
  types_fit h k = all_each type_object Fits (types_among m (reached_types m)) (all_from (λ t. TypedTypeIsSpelled t × IsLaid t.desc) (λ t. Fits (type_object t)) one_type (types_among m (reached_types m)) (kept_of (λ t. TypedTypeIsSpelled t × IsLaid t.desc) _ m.types (all_pairs TypedTypeIsSpelled (λ t. IsLaid t.desc) m.types h k)))

  -- THE OBJECTS of a module
  pub objects_fit : AllByRecursion ConstantIsSpelled m.constants → AllByRecursion VariableIsSpelled m.variables → AllByRecursion ProcedureIsSpelled m.procedures → AllByRecursion TypedTypeIsSpelled m.types → AllByRecursion (λ t. IsLaid t.desc) m.types → AllByRecursion Fits (objects_of m)
  objects_fit cs vs ps ts ls =
      let a = map constant_object (filter (λ c. is_shown c.mark) m.constants) in
      let b = map variable_object (filter (λ v. is_shown v.mark) m.variables) in
      let c = map procedure_object (filter is_exported m.procedures) in
      let d = map type_object (types_among m (reached_types m)) in
      all_in_order by_name Fits (a ++ b ++ c ++ d)
      (all_both Fits (a ++ b ++ c) d
      (all_both Fits (a ++ b) c
      (all_both Fits a b (constants_fit _ (kept_of ConstantIsSpelled _ m.constants cs)) (variables_fit _ (kept_of VariableIsSpelled _ m.variables vs)))
      (procedures_fit m.procedures ps)) (types_fit ts ls))

names_total : IsTotalOrder by_name
names_total = on_total (λ o. o.0) nat_list_cmp_total

pub objects_rise : (m : Module) → IsStrictlySortedBy by_name (objects_of m)
objects_rise m = order_strict names_total (
    map constant_object (filter (λ c. is_shown c.mark) m.constants)
    ++ map variable_object (filter (λ v. is_shown v.mark) m.variables)
    ++ map procedure_object (filter is_exported m.procedures)
    ++ map type_object (types_among m (reached_types m)))
