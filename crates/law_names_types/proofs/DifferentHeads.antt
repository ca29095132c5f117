-- A heading: what it is bound to, and the types that it makes.
use Rattle.std.proofs.Common.{◌≡◌, inl, inr, ℕ, Bool, true, false, List, [], ◌∷◌, ◌++◌, map as each, Option, Some, None, refl, sym, ap, subst, ◌∙◌, append_assoc}
use Rattle.std.specs.Prelude.{◌==◌, ◌&&◌, not, cond, is_some, bytes_eq}
use Rattle.std.specs.List.{AllByRecursion, cons_option, filter_map, list_any}
use Rattle.std.proofs.lemmas.Bool.{and_parts, or_parts, not-true}
use Rattle.std.proofs.lemmas.Slice.Eq.{bytes_eq-Decides}
use Rattle.ob_tree.specs.declared.names.QName.{QName}
use Rattle.ob_tree.specs.declared.ident.Mark.{Mark}
use Rattle.ob_tree.specs.declared.decl.Receiver.{Receiver as RawReceiver}
use Rattle.ob_tree.specs.declared.decl.Decl.{Decl, roll-Decl, map-Decl}
use Rattle.ob_tree.specs.declared.decl.Decl.TheOpen.{Decl-F}
use Rattle.ob_tree.specs.declared.decl.Decl.TheFolds.{ind-Decl, fold-roll-Decl}
use Rattle.ob_types.specs.declared.types.TypeRef.{TypeRef}
use Rattle.ob_types.specs.declared.types.TypeRef.TheVariants as ref
use Rattle.ob_types.specs.declared.desc.Desc.{Desc}
use Rattle.ob_types.specs.declared.desc.Desc.TheVariants as desc
use Rattle.ob_types.specs.declared.desc.RecordDesc.{RecordDesc}
use Rattle.ob_types.specs.declared.typed.TypedType.{TypedType}
use Rattle.ob_types.specs.Tests.{target, shape_at}
use Rattle.ob_rules.specs.Judged.{sound, if_sound, paired, both}
use Rattle.ob_rules.specs.Shapes.{Map, same_name, record_at, record_of, record_if, pointed}
use Rattle.ob_rules.specs.Names.{Around, own_desc, out_string, type_desc, map_of, type_named}
use Rattle.ob_rules.specs.Types.{Parameters, marked, nothing, is_module_level, parameters_in, inner}
use Rattle.ob_rules.specs.Headings.{WrittenHeading, Head, BoundAs, received_record, is_own, if_own, own_record, silent_base, bound_to, owner_of, owner_if, bound_in, path_by, forward_name, as_parameters, knows_receiver, head_of, heading_parameters, anew}
use Rattle.ob_rules.specs.Declarations.{Written_procedure, Declaration, Plain, Procedure, procedure_of, decl_rule, declaration}
use Rattle.law_names_distinct.specs.Parts.{IsWord, IsInScope}
use Rattle.law_names_distinct.specs.Named.{is_word, all_true, parameters_named, decl_layer, decl_named}
use Rattle.law_names_distinct.proofs.Quiet.{any_quiet, both_quiet, anew_quiet}
use Rattle.law_names_distinct.proofs.Typings.{IsOfSection, ParametersIn}
use Rattle.law_names_distinct.proofs.Written.{words_are}
use Rattle.law_names_types.specs.Nested.{AreNested}
use Rattle.law_names_types.proofs.Typings.{parameters_nested}
use Rattle.law_names_types.proofs.Written.{ParametersWell, parameters_are_nested}
use Rattle.law_names_types.proofs.Heads.{head_types}
use Rattle.law_names_types.specs.Fields.{found}
use Rattle.law_names_types.proofs.Items.{IsAmong}
use Rattle.law_lists.proofs.Lists.{Anything, IfThere}

-- ---- headings as they are written

pub record IsWellWritten (h : WrittenHeading) : Type 0 where
  pub word : IsWord h.name.ident.name
  pub parameters : ParametersWell h.parameters

abbrev WellDeclaration : Declaration → Type 0
WellDeclaration (Plain x f) = Unit {0}
WellDeclaration (Procedure p) = IsWellWritten p.heading

abbrev PD : Decl → Type 0
PD x = decl_named x ≡ true → WellDeclaration (declaration x)

abbrev SD : Type 0
SD = (x : Decl) × PD x

layer : (x : Decl-F Decl) → (decl_layer (map-Decl Decl Bool decl_named x) ≡ true → WellDeclaration (decl_rule (map-Decl Decl Declaration declaration x))) → PD (roll-Decl x)
layer x h e = subst WellDeclaration (sym (fold-roll-Decl Declaration decl_rule x)) (h (sym (fold-roll-Decl Bool decl_layer x) ∙ e))

decl_cases : (y : Decl-F SD) → PD (roll-Decl (map-Decl SD Decl (λ x. x.0) y))
decl_cases (Decl-F.Constant d x) = layer (Decl-F.Constant d x) (λ e. tt)
decl_cases (Decl-F.NamedType d n) = layer (Decl-F.NamedType d n) (λ e. tt)
decl_cases (Decl-F.Variables ds n) = layer (Decl-F.Variables ds n) (λ e. tt)
decl_cases (Decl-F.Procedure h ds body closing) = layer (Decl-F.Procedure h (each (λ (x : SD). x.0) ds) body closing)
    (λ e.
    let named = all_true (each decl_named (each (λ (x : SD). x.0) ds)) in
    let p = and_parts (is_word h.name.ident.name) (parameters_named h.parameters && named) e in
    record { word = words_are h.name.ident.name p.0; parameters = parameters_are_nested h.parameters (and_parts (parameters_named h.parameters) named p.1).0 })
decl_cases (Decl-F.Forward h) = layer (Decl-F.Forward h)
    (λ e. let p = and_parts (is_word h.name.ident.name) (parameters_named h.parameters) e in
    record { word = words_are h.name.ident.name p.0; parameters = parameters_are_nested h.parameters p.1 })

decl_well : (x : Decl) → PD x
decl_well = ind-Decl PD (λ x y is. subst (λ z. PD (roll-Decl z)) is (decl_cases y))

heading_kept : (d : Declaration) → WellDeclaration d → (ps : List Written_procedure) → AllByRecursion (λ p. IsWellWritten p.heading) ps → AllByRecursion (λ p. IsWellWritten p.heading) (cons_option (procedure_of d) ps)
heading_kept (Plain x f) h ps k = k
heading_kept (Procedure p) h ps k = (h, k)

pub headings_well : (xs : List Decl) → all_true (each decl_named xs) ≡ true → AllByRecursion (λ p. IsWellWritten p.heading) (filter_map procedure_of (each declaration xs))
headings_well [] e = tt
headings_well (x ∷ xs) e = let p = and_parts (decl_named x) (all_true (each decl_named xs)) e in heading_kept (declaration x) (decl_well x p.0) (filter_map procedure_of (each declaration xs)) (headings_well xs p.1)

-- ---- records of the module

pub record HoldsRecord (ts : List TypedType) (x : List ℕ) : Type 0 where
  pub of : TypedType
  pub there : IsAmong of ts
  pub is : of.name ≡ x
  pub fields : RecordDesc
  pub described : of.desc ≡ desc.Record fields

found_record : (ts : List TypedType) (x : List ℕ) (r : RecordDesc) → own_desc (found ts x) ≡ Some (desc.Record r) → HoldsRecord ts x
found_record [] x r e = absurd cc
found_record (t ∷ ts) x r e = by (bytes_eq t.name x) refl e (λ k. found_record ts x r k)
  where
    by : (b : Bool) → bytes_eq t.name x ≡ b → own_desc (cond b (Some t) (found ts x)) ≡ Some (desc.Record r) → (own_desc (found ts x) ≡ Some (desc.Record r) → HoldsRecord ts x) → HoldsRecord (t ∷ ts) x
    by true i e k = record { of = t; there = inl refl; is = (bytes_eq-Decides t.name x).0 i; fields = r; described = cc }
    by false i e k = let h = k e in record { of = h.of; there = inr h.there; is = h.is; fields = h.fields; described = h.described }

at_record : (q p : QName) (o : Option Desc) → record_at (ref.Named p) o ≡ Some q → (r : RecordDesc) × (p ≡ q) × (o ≡ Some (desc.Record r))
at_record q p None e = absurd cc
at_record q p (Some (desc.Const v)) e = absurd cc
at_record q p (Some (desc.Var m t)) e = absurd cc
at_record q p (Some (desc.Proc s)) e = absurd cc
at_record q p (Some (desc.Alias m t)) e = absurd cc
at_record q p (Some (desc.Array m n t)) e = absurd cc
at_record q p (Some (desc.OpenArray m t)) e = absurd cc
at_record q p (Some (desc.Pointer m t)) e = absurd cc
at_record q p (Some (desc.ProcType m s)) e = absurd cc
at_record q p (Some (desc.Record r)) e = (r, cc, refl)

of_record : (map : Map) (t : TypeRef) (q : QName) → record_of map t ≡ Some q → (r : RecordDesc) × (map q ≡ Some (desc.Record r))
of_record map t q e = by (target map 201 t) e
  where
    by : (t : TypeRef) → record_at t (shape_at map t) ≡ Some q → (r : RecordDesc) × (map q ≡ Some (desc.Record r))
    by (ref.Basic b) e = absurd cc
    by (ref.Named p) e = let h = at_record q p (map p) e in (h.0, ap map (sym h.1) ∙ h.2)

if_record : (map : Map) (o : Option TypeRef) (q : QName) → record_if map o ≡ Some q → (r : RecordDesc) × (map q ≡ Some (desc.Record r))
if_record map None q e = absurd cc
if_record map (Some t) q e = of_record map t q e

received : (map : Map) (var : Bool) (t : TypeRef) (q : QName) → received_record map var t ≡ Some q → (r : RecordDesc) × (map q ≡ Some (desc.Record r))
received map true t q e = of_record map t q e
received map false t q e = if_record map (pointed map t) q e

-- ---- what a procedure is bound to

pub record IsOwner (w : Around) (q : QName) : Type 0 where
  pub path : w.path ≡ []
  pub scope : IsInScope q.object
  pub unit : bytes_eq q.«module» w.unit ≡ true
  pub holds : HoldsRecord w.own q.object

if_owned : (b c : Bool) (p q : QName) → if_own (b && c) p ≡ Some q → (b ≡ true) × (c ≡ true) × (p ≡ q)
if_owned true true p q e = (refl, refl, cc)
if_owned true false p q e = absurd cc
if_owned false c p q e = absurd cc

owned : (w : Around) (o : Option QName) (q : QName) → own_record w o ≡ Some q → (is_own w q ≡ true) × (is_module_level w ≡ true) × (o ≡ Some q)
owned w None q e = absurd cc
owned w (Some p) q e =
    let h = if_owned (is_own w p) (is_module_level w) p q e in
    (subst (λ q. is_own w q ≡ true) h.2 h.0, h.1, ap (λ q. Some q) h.2)

no_path : (x : List ℕ) → nothing x ≡ true → x ≡ []
no_path [] e = refl
no_path (c ∷ x) e = absurd cc

no_slash : (x : List ℕ) → list_any (λ c. c == 47) x ≡ false → IsInScope x
no_slash [] e = tt
no_slash (c ∷ x) e = let h = or_parts (c == 47) (list_any (λ c. c == 47) x) e in (h.0, no_slash x h.1)

owner_is : (w : Around) (var : Bool) (t : TypeRef) (q : QName) → own_record w (received_record (map_of w) var t) ≡ Some q → IsOwner w q
owner_is w var t q e =
    let h = owned w (received_record (map_of w) var t) q e in
    let k = and_parts (bytes_eq q.«module» w.unit) (not (list_any (λ c. c == 47) q.object)) h.0 in
    let r = received (map_of w) var t q h.2 in
    record {
      path = no_path w.path h.1;
      scope = no_slash q.object (not-true (list_any (λ c. c == 47) q.object) k.1);
      unit = k.0;
      holds = found_record w.own q.object r.0 (subst (λ b. type_desc b (same_name q out_string) w q ≡ Some (desc.Record r.0)) k.0 r.1);
    }

bound_is : (w : Around) (r : RawReceiver) (a : BoundAs) (o : Option TypeRef) → (if_sound o (λ t. bound_to r.owner.pos r.is_var t (is_module_level w && silent_base (map_of w) r.is_var (pointed (map_of w) t)) (own_record w (received_record (map_of w) r.is_var t)))).node ≡ Some a → IsOwner w a.owner
bound_is w r a None e = absurd cc
bound_is w r a (Some t) e = by (is_module_level w && silent_base (map_of w) r.is_var (pointed (map_of w) t)) (own_record w (received_record (map_of w) r.is_var t)) refl e
  where
    by : (quiet : Bool) (o : Option QName) → own_record w (received_record (map_of w) r.is_var t) ≡ o → (bound_to r.owner.pos r.is_var t quiet o).node ≡ Some a → IsOwner w a.owner
    by quiet (Some q) i e = let same : q ≡ a.owner = by_owner q e in subst (IsOwner w) same (owner_is w r.is_var t q i)
      where
        by_owner : (q : QName) → (bound_to r.owner.pos r.is_var t quiet (Some q)).node ≡ Some a → q ≡ a.owner
        by_owner q e = owner_same _ a e
          where
            owner_same : (b a : BoundAs) → Some b ≡ Some a → b.owner ≡ a.owner
            owner_same b a e = let same : b ≡ a = cc in ap (λ (b : BoundAs). b.owner) same
    by true None i e = absurd cc
    by false None i e = absurd cc

-- of a heading without receiver, or with one
abbrev Owned : Around → Option RawReceiver → Option BoundAs → Type 0
Owned w r None = is_some r ≡ false
Owned w r (Some a) = (is_some r ≡ true) × IsOwner w a.owner

owned_if : (w : Around) (r : Option RawReceiver) (o : Option BoundAs) → (owner_if w r).node ≡ Some o → Owned w r o
owned_if w None None e = refl
owned_if w None (Some a) e = absurd cc
owned_if w (Some r) o e = by (owner_of w r).node refl e
  where
    by : (x : Option BoundAs) → (owner_of w r).node ≡ x → (if_sound x (λ b. sound (Some b))).node ≡ Some o → Owned w (Some r) o
    by None i e = absurd cc
    by (Some a) i e =
        let same : Some a ≡ o = cc in
        subst (Owned w (Some r)) same (refl, bound_is w r a (type_named w (record { qualifier = None; ident = r.owner })).node i)

-- ---- a heading

pub record IsBound (w : Around) (h : Head) (a : BoundAs) : Type 0 where
  pub flag : h.is_bound ≡ true
  pub is : h.path ≡ a.owner.object ++ 46 ∷ h.name
  pub owner : IsOwner w a.owner

pub record IsPlain (w : Around) (h : Head) : Type 0 where
  pub flag : h.is_bound ≡ false
  pub is : h.path ≡ w.path ++ h.name

abbrev pub IsSound : Around → Head → Option BoundAs → Type 0
IsSound w h None = IsPlain w h
IsSound w h (Some a) = IsBound w h a

module _ (w : Around) (h : WrittenHeading) (forward : Bool) where
  abbrev head : Head
  head = head_of w h forward

  abbrev node : Option (Option BoundAs)
  node = (owner_if w h.receiver).node

  sound_by : (o : Option BoundAs) → node ≡ Some o → IsSound w head o
  sound_by None e = record { flag = owned_if w h.receiver None e; is = ap (λ b. w.path ++ path_by b h.name.ident.name) e }
  sound_by (Some a) e =
      let k = owned_if w h.receiver (Some a) e in
      record {
        flag = k.0;
        is = ap (λ b. w.path ++ path_by b h.name.ident.name) e ∙ ap (λ p. p ++ path_by (Some (Some a)) h.name.ident.name) k.1.path ∙ append_assoc a.owner.object (46 ∷ []) h.name.ident.name;
        owner = k.1;
      }

  pub bound_sound : (a : BoundAs) → head.bound ≡ Some a → IsBound w head a
  bound_sound a e = by node refl e
    where
      by : (o : Option (Option BoundAs)) → node ≡ o → bound_in o ≡ Some a → IsBound w head a
      by None i e = absurd cc
      by (Some o) i e = sound_by (Some a) (i ∙ ap (λ o. Some o) e)

  there_by : (m : Option Mark) (o : Option (Option BoundAs)) (s : Option Parameters) (p : Parameters) → as_parameters (paired (paired m o) s) ≡ Some p → (x : Option BoundAs) × (o ≡ Some x)
  there_by None o s p e = absurd cc
  there_by (Some m) None s p e = absurd cc
  there_by (Some m) (Some x) s p e = (x, refl)

  pub head_sound : (p : Parameters) → head.parameters ≡ Some p → IsSound w head head.bound
  head_sound p e =
      let k = there_by (marked w false h.name).node node (heading_parameters w h forward (owner_if w h.receiver)).found.node p e in
      subst (IsSound w head) (ap bound_in (sym k.1)) (sound_by k.0 k.1)

  in_parameters : (name : List ℕ) (o : Option ((Mark × Option BoundAs) × Parameters)) → IfThere (λ (q : (Mark × Option BoundAs) × Parameters). Anything q.0 × (AllByRecursion (λ t. IsOfSection name 1 t.name) q.1.made × AreNested q.1.made q.1.made)) o → IfThere (λ (p : Parameters). AreNested p.made p.made) (as_parameters o)
  in_parameters name None k = tt
  in_parameters name (Some q) k = k.1.1

  pub head_nested : IsWellWritten h → head.notes.broken ≡ [] → IfThere (λ (p : Parameters). AreNested p.made p.made) head.parameters
  head_nested well e =
      let m = marked w false h.name in
      let b = owner_if w h.receiver in
      let name = forward_name forward (w.path ++ path_by b.node h.name.ident.name) in
      let start = knows_receiver (inner w) h.receiver b.node in
      let s = (anew w h.name.ident.«pos» (parameters_in start name h.parameters)).found in
      in_parameters name (both (both m b) s).node
      (both_quiet Anything (λ (p : Parameters). AllByRecursion (λ t. IsOfSection name 1 t.name) p.made × AreNested p.made p.made) (both m b) s (any_quiet (both m b)) (anew_quiet (λ (p : Parameters). AllByRecursion (λ t. IsOfSection name 1 t.name) p.made × AreNested p.made p.made) w h.name.ident.«pos» (parameters_in start name h.parameters) (parameters_nested start name h.parameters well.parameters.nested well.parameters.good well.parameters.few)) e)

  pub head_parameters : IsWellWritten h → head.notes.broken ≡ [] → IfThere (ParametersIn (forward_name forward head.path) 1) head.parameters
  head_parameters well e = head_types w h forward well.parameters.good well.parameters.few e
