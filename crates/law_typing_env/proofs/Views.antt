-- The maps of a module of a program have to do with the program as `Formed` says: that of its code, and that of the rules.
use Rattle.std.proofs.Common.{◌≡◌, inl, inr, ℕ, List, [], ◌∷◌, map as each, Option, Some, None, refl, sym, ap, subst, ◌∙◌}
use Rattle.std.specs.Prelude.{Bool, true, false, cond, bytes_eq}
use Rattle.std.specs.Option.{option_map}
use Rattle.std.specs.List.{find, AllByRecursion}
use Rattle.ob_tree.specs.declared.names.QName.{QName}
use Rattle.ob_tree.specs.declared.ident.Mark.TheVariants as mark
use Rattle.ob_types.specs.declared.types.Basic.TheVariants as basic
use Rattle.ob_types.specs.declared.types.TypeRef.TheVariants as ref
use Rattle.ob_types.specs.declared.desc.Desc.{Desc}
use Rattle.ob_types.specs.declared.desc.Desc.TheVariants as desc
use Rattle.ob_types.specs.declared.desc.RecordDesc.{RecordDesc}
use Rattle.ob_types.specs.declared.desc.Field.{Field}
use Rattle.ob_types.specs.declared.desc.Method.{Method}
use Rattle.ob_types.specs.declared.typed.TypedType.{TypedType}
use Rattle.ob_types.specs.Maps.{is_type}
use Rattle.ob_types.specs.TypedSyntax.{Module}
use Rattle.ob_meaning.specs.Values.{Program, description, number_of_types}
use Rattle.law_simulation_relation.proofs.Names.{bytes_true}
use Rattle.ob_layout.specs.LaidOut.{type_named, is_own, viewed, laid_desc, laid_record, laid_type, words_in, procedures_in}
use Rattle.ob_env.specs.Faces.{Face, described}
use Rattle.ob_env.specs.Shown.{blank}
use Rattle.ob_rules.specs.Shapes.{same_name}
use Rattle.ob_rules.specs.Names.{Around, map_of, type_desc, own_desc, out_string}
use Rattle.law_typing_forms.specs.Formed.{Formed}
use Rattle.law_typing_forms.proofs.Chains.{chains}
use Rattle.law_typing_forms.specs.Said.{IsOneOf, IsSaid, IsSound, IsAmong, IsBoundAmong, IsPartOf}
use Rattle.law_typing_forms.specs.Whole.{IsWhole}
use Rattle.law_typing_forms.proofs.Modules.{of_all, type_there}
use Rattle.law_typing_forms.proofs.Saying.{formed}
use Rattle.law_typing_env.specs.Ages.{AreShown}
use Rattle.law_typing_env.specs.Views.{IsAround, SaysNoMore, IsEarly}
use Rattle.law_typing_env.proofs.Shown.{within_type, part_itself, described_said}
use Rattle.law_typing_env.proofs.Laid.{part_laid, part_blank}

pub one_each : {A B : Type 0} (f : A → B) (xs : List A) (x : A) → IsOneOf xs x → IsOneOf (each f xs) (f x)
one_each f [] x h = absurd h
one_each f (y ∷ xs) x (inl e) = inl (ap f e)
one_each f (y ∷ xs) x (inr k) = inr (one_each f xs x k)

pub record TypeFound (ts : List TypedType) (x : List ℕ) (d : Desc) : Type 0 where
  pub t : TypedType
  pub there : IsOneOf ts t
  pub name : t.name ≡ x
  pub desc : t.desc ≡ d

pub type_found : (ts : List TypedType) (x : List ℕ) (d : Desc) → type_named ts x ≡ Some d → TypeFound ts x d
type_found [] x d e = absurd cc
type_found (t ∷ ts) x d e = by (bytes_eq x t.name) refl e (λ e. type_found ts x d e)
  where
    by : (b : Bool) → bytes_eq x t.name ≡ b → cond b (Some t.desc) (type_named ts x) ≡ Some d → (type_named ts x ≡ Some d → TypeFound ts x d) → TypeFound (t ∷ ts) x d
    by true n e r = let k : t.desc ≡ d = cc in record { t = t; there = inl refl; name = sym (bytes_true x t.name n); desc = k }
    by false n e r = let k = r e in record { t = k.t; there = inr k.there; name = k.name; desc = k.desc }

pub own_found : (ts : List TypedType) (x : List ℕ) (d : Desc) → own_desc (find (λ t. bytes_eq t.name x) ts) ≡ Some d → TypeFound ts x d
own_found [] x d e = absurd cc
own_found (t ∷ ts) x d e = by (bytes_eq t.name x) refl e (λ e. own_found ts x d e)
  where
    by : (b : Bool) → bytes_eq t.name x ≡ b → own_desc (cond b (Some t) (find (λ t. bytes_eq t.name x) ts)) ≡ Some d → (own_desc (find (λ t. bytes_eq t.name x) ts) ≡ Some d → TypeFound ts x d) → TypeFound (t ∷ ts) x d
    by true n e r = let k : t.desc ≡ d = cc in record { t = t; there = inl refl; name = bytes_true t.name x n; desc = k }
    by false n e r = let k = r e in record { t = k.t; there = inr k.there; name = k.name; desc = k.desc }

-- ---- what says no more is said too

fields_among : (r s : List Field) → AllByRecursion (λ f. IsAmong s f) r → (x : List Field) → AllByRecursion (λ f. IsAmong x f) s → AllByRecursion (λ f. IsAmong x f) r
fields_among [] s h x k = tt
fields_among (f ∷ fs) s h x k =
    let a : IsAmong x h.0.g = of_all (λ f. IsAmong x f) s h.0.g k h.0.there in
    (record { g = a.g; there = a.there; name = a.name ∙ h.0.name; of = a.of ∙ h.0.of }, fields_among fs s h.1 x k)

methods_among : (r s : List Method) → AllByRecursion (λ m. IsBoundAmong s m) r → (x : List Method) → AllByRecursion (λ m. IsBoundAmong x m) s → AllByRecursion (λ m. IsBoundAmong x m) r
methods_among [] s h x k = tt
methods_among (m ∷ ms) s h x k =
    let a : IsBoundAmong x h.0.k = of_all (λ m. IsBoundAmong x m) s h.0.k k h.0.there in
    (record { k = a.k; there = a.there; name = a.name ∙ h.0.name; receiver = a.receiver ∙ h.0.receiver; signature = a.signature ∙ h.0.signature }, methods_among ms s h.1 x k)

part_part : (r s x : RecordDesc) → IsPartOf r s → IsPartOf s x → IsPartOf r x
part_part r s x h k = record { base = h.base ∙ k.base; fields = fields_among r.fields s.fields h.fields x.fields k.fields; methods = methods_among r.methods s.methods h.methods x.methods k.methods }

no_more_said : (program : Program) (q : QName) (e d : Desc) → SaysNoMore e d → IsSaid program q d → IsSaid program q e
no_more_said program q (desc.Record r) d h k = let l : IsSaid program q (desc.Record h.0) = subst (λ d. IsSaid program q d) h.1.0 k in (l.0, (l.1.0, part_part r h.0 l.0 h.1.1 l.1.1))
no_more_said program q (desc.Const v) d h k = subst (λ d. IsSaid program q d) (sym h) k
no_more_said program q (desc.Var m t) d h k = subst (λ d. IsSaid program q d) (sym h) k
no_more_said program q (desc.Proc s) d h k = subst (λ d. IsSaid program q d) (sym h) k
no_more_said program q (desc.Alias m t) d h k = subst (λ d. IsSaid program q d) (sym h) k
no_more_said program q (desc.Array m n t) d h k = subst (λ d. IsSaid program q d) (sym h) k
no_more_said program q (desc.OpenArray m t) d h k = subst (λ d. IsSaid program q d) (sym h) k
no_more_said program q (desc.Pointer m t) d h k = subst (λ d. IsSaid program q d) (sym h) k
no_more_said program q (desc.ProcType m s) d h k = subst (λ d. IsSaid program q d) (sym h) k

module _ (program : Program) (sound : IsSound program) where
  a_type : (q : QName) (d : Desc) → description program q ≡ Some d → is_type d ≡ true
  a_type q d e = within_type (description program) (number_of_types program) q d e (chains program sound q d e)

  -- a type that the program declares says itself
  pub own_said : (q : QName) (d : Desc) → description program q ≡ Some d → IsSaid program q d
  own_said q d e = by d e (a_type q d e)
    where
      by : (d : Desc) → description program q ≡ Some d → is_type d ≡ true → IsSaid program q d
      by (desc.Const v) e t = tt
      by (desc.Var m u) e t = absurd cc
      by (desc.Proc s) e t = absurd cc
      by (desc.Alias m u) e t = (m, e)
      by (desc.Array m n u) e t = (m, e)
      by (desc.OpenArray m u) e t = inr (m, e)
      by (desc.Pointer m u) e t = (m, e)
      by (desc.ProcType m s) e t = (m, e)
      by (desc.Record s) e t = (s, (e, part_itself s))

  -- so it does as it was checked
  pub checked_said : (types : QName → Option Desc) (c : Module) (q p : QName) (d : Desc) → description program q ≡ Some (laid_desc (words_in types c) (procedures_in types c) p d) → IsSaid program q d
  checked_said types c q p (desc.Const v) e = tt
  checked_said types c q p (desc.Var m u) e = let t = a_type q (desc.Var m u) e in absurd cc
  checked_said types c q p (desc.Proc s) e = let t = a_type q (desc.Proc s) e in absurd cc
  checked_said types c q p (desc.Alias m u) e = (m, e)
  checked_said types c q p (desc.Array m n u) e = (m, e)
  checked_said types c q p (desc.OpenArray m u) e = inr (m, e)
  checked_said types c q p (desc.Pointer m u) e = (m, e)
  checked_said types c q p (desc.ProcType m s) e = (m, e)
  checked_said types c q p (desc.Record r) e = (laid_record (words_in types c) (procedures_in types c) p r, (e, part_laid (words_in types c) (procedures_in types c) p r))

  -- so it does without places and numbers
  pub blank_said : (q : QName) (d : Desc) → IsSaid program q d → IsSaid program q (blank d)
  blank_said q (desc.Const v) h = h
  blank_said q (desc.Var m u) h = h
  blank_said q (desc.Proc s) h = h
  blank_said q (desc.Alias m u) h = h
  blank_said q (desc.Array m n u) h = h
  blank_said q (desc.OpenArray m u) h = h
  blank_said q (desc.Pointer m u) h = h
  blank_said q (desc.ProcType m s) h = h
  blank_said q (desc.Record r) h = (h.0, (h.1.0, part_blank r h.0 h.1.1))

  module _ (whole : IsWhole program) {K : Type 0} (faces : List (Face K)) (age : AreShown program faces) where
    -- THE MAP THAT A MODULE'S CODE IS MADE WITH
    viewed_said : (m : Module) → IsOneOf program m → (q : QName) (d : Desc) → viewed (described faces) m q ≡ Some d → IsSaid program q d
    viewed_said m i q d e = by (is_own m q) refl e
      where
        by : (b : Bool) → is_own m q ≡ b → cond b (type_named m.types q.object) (described faces q) ≡ Some d → IsSaid program q d
        by true n e =
            let k = type_found m.types q.object d e in
            let there : description program (record { «module» = m.name; object = k.t.name }) ≡ Some k.t.desc = type_there program whole m k.t i k.there in
            let at_q : description program q ≡ Some d = ap (λ (x : List ℕ). description program (let p : QName = record { «module» = x; object = q.object } in p)) (bytes_true q.«module» m.name n) ∙ ap (λ (x : List ℕ). description program (let p : QName = record { «module» = m.name; object = x } in p)) (sym k.name) ∙ there ∙ ap (λ x. Some x) k.desc in
            own_said q d at_q
        by false n e = described_said program sound whole faces age q d e

    pub viewed_formed : (m : Module) → IsOneOf program m → Formed (viewed (described faces) m) program
    viewed_formed m i = formed program sound (viewed (described faces) m) (viewed_said m i)

  module _ (whole : IsWhole program) {K : Type 0} (faces : List (Face K)) (u : Around) (around : IsAround program faces u) where
    -- THE MAP OF THE RULES
    ruled_said : (q : QName) (d : Desc) → map_of u q ≡ Some d → IsSaid program q d
    ruled_said q d e = by (bytes_eq q.«module» u.unit) (same_name q out_string) refl refl e
      where
        shown_said : (o : Option Desc) → described faces q ≡ o → option_map blank o ≡ Some d → IsSaid program q d
        shown_said None f e = absurd cc
        shown_said (Some x) f e = let k : blank x ≡ d = cc in subst (λ d. IsSaid program q d) k (blank_said q x (described_said program sound whole faces around.age q x f))

        by : (a b : Bool) → bytes_eq q.«module» u.unit ≡ a → same_name q out_string ≡ b → type_desc a b u q ≡ Some d → IsSaid program q d
        by true b n s e =
            let k = own_found u.own q.object d e in
            let types = around.types in
            let c = around.checked in
            let p : IsEarly c.types k.t = of_all (IsEarly c.types) u.own k.t around.own k.there in
            let laid = laid_type types c p.s in
            let in_m : IsOneOf around.m.types laid = subst (λ ts. IsOneOf ts laid) (sym around.laid.types_are) (one_each (laid_type types c) c.types p.s p.there) in
            let there : description program (record { «module» = around.m.name; object = p.s.name }) ≡ Some laid.desc = type_there program whole around.m laid around.there in_m in
            let unit : q.«module» ≡ around.m.name = bytes_true q.«module» u.unit n ∙ around.unit in
            let at_q : description program q ≡ Some laid.desc = ap (λ (x : List ℕ). description program (let p : QName = record { «module» = x; object = q.object } in p)) unit ∙ ap (λ (x : List ℕ). description program (let p : QName = record { «module» = around.m.name; object = x } in p)) (sym (p.name ∙ k.name)) ∙ there in
            let whole_said : IsSaid program q p.s.desc = checked_said types c q (record { «module» = c.name; object = p.s.name }) p.s.desc at_q in
            let said : IsSaid program q k.t.desc = no_more_said program q k.t.desc p.s.desc p.says whole_said in
            subst (λ d. IsSaid program q d) k.desc said
        by false true n s e = let k : desc.OpenArray mark.Hidden (ref.Basic basic.Char) ≡ d = cc in subst (λ d. IsSaid program q d) k (inl (s, refl))
        by false false n s e = shown_said (described faces q) refl (ap (λ f. f q) (sym around.interfaces) ∙ e)

    pub ruled_formed : Formed (map_of u) program
    ruled_formed = formed program sound (map_of u) ruled_said
