-- In the descriptions that a module was compiled with, the types of its variables are types, and no open arrays.
use Rattle.std.proofs.Common.{◌≡◌, refl, sym, ap, ◌∙◌, subst, ℕ, zero, suc, Bool, true, false, List, [], ◌∷◌, Option, Some, None, inl, inr, cond}
use Rattle.std.specs.Prelude.{◌&&◌, bytes_eq, is_some, MatchOption, IsTrue, codes}
use Rattle.std.specs.List.{AllByRecursion, find}
use Rattle.std.specs.Option.{option_map}
use Rattle.std.proofs.lemmas.Bool.{false≢true}
use Rattle.std.proofs.lemmas.Slice.Eq.{bytes_eq-Decides}
use Rattle.ob_tree.specs.declared.names.QName.{QName}
use Rattle.ob_tree.specs.declared.ident.Mark.{Mark}
use Rattle.ob_types.specs.declared.types.TypeRef.{TypeRef}
use Rattle.ob_types.specs.declared.types.TypeRef.TheVariants as ref
use Rattle.ob_types.specs.declared.desc.Desc.{Desc}
use Rattle.ob_types.specs.declared.desc.Desc.TheVariants as desc
use Rattle.ob_types.specs.declared.desc.Method.{Method}
use Rattle.ob_types.specs.declared.typed.TypedType.{TypedType}
use Rattle.ob_types.specs.declared.typed.TypedVariable.{TypedVariable}
use Rattle.ob_types.specs.declared.typed.TypedModule.{TypedModule}
use Rattle.ob_types.specs.Maps.{is_type, stands_on, named_by, IsHeld, IsWithin}
use Rattle.ob_types.specs.Relations.{StandsFor, itself, equated, Is, is_alias, is_open, IsGrounded}
use Rattle.ob_types.specs.Tests.{target_of, follow, target, shape_at}
use Rattle.ob_types.specs.TypedSyntax.{Module}
use Rattle.ob_types.specs.TypedView.{module_view}
use Rattle.ob_layout.specs.LaidOut.{type_named, laid_desc, laid_out, viewed, words_in, procedures_in}
use Rattle.ob_env.specs.Faces.{Face, face_named, object_named, described}
use Rattle.ob_env.specs.Shown.{blank, shown}
use Rattle.ob_rules.specs.Shapes.{open_at, same_name}
use Rattle.ob_rules.specs.Shapes as shapes
use Rattle.ob_rules.specs.Names.{Around, own_desc, out_string, type_desc, map_of}
use Rattle.law_simulation_relation.proofs.Names.{bytes_true}
use Rattle.ob_format.specs.Format.{◌>>=◌}
use Rattle.law_names_distinct.specs.Distinct.{AreDistinct}
use Rattle.law_local_files.specs.Laws.{HaveNoOut}
use Rattle.law_local_files.proofs.Agreed.{out_none}
use Rattle.law_typing_forms.specs.Said.{IsOneOf}
use Rattle.law_body_context.specs.Knows.{HasName, IsTypeDesc, StandsBy, Stands}
use Rattle.law_body_context.specs.Judged.{with_methods}
use Rattle.law_body_context.proofs.Lists.{one_all}
use Rattle.law_local_uses.proofs.Laid.{all_found, IsFound}
use Rattle.law_typing_env.specs.Near.{core}
use Rattle.law_builds_ruled.specs.ruled_laws.Variables.{AliasStands, IsSameType, IsDeclaredWell}
use Rattle.law_builds_ruled.proofs.ruled_laws.Shut.{target_own, open_own}

abbrev Text : Type 0
Text = List ℕ

-- ---- what stays of a description

laid_type_is : (w p : TypeRef → ℕ) (q : QName) (d : Desc) → is_type (laid_desc w p q d) ≡ is_type d
laid_type_is w p q (desc.Record r) = refl
laid_type_is w p q (desc.Const v) = refl
laid_type_is w p q (desc.Var m t) = refl
laid_type_is w p q (desc.Proc s) = refl
laid_type_is w p q (desc.Alias m t) = refl
laid_type_is w p q (desc.Array m n t) = refl
laid_type_is w p q (desc.OpenArray m t) = refl
laid_type_is w p q (desc.Pointer m t) = refl
laid_type_is w p q (desc.ProcType m s) = refl

blank_type_is : (d : Desc) → is_type (blank d) ≡ is_type d
blank_type_is (desc.Record r) = refl
blank_type_is (desc.Const v) = refl
blank_type_is (desc.Var m t) = refl
blank_type_is (desc.Proc s) = refl
blank_type_is (desc.Alias m t) = refl
blank_type_is (desc.Array m n t) = refl
blank_type_is (desc.OpenArray m t) = refl
blank_type_is (desc.Pointer m t) = refl
blank_type_is (desc.ProcType m s) = refl

-- an alias is the same alias, and others are as open, and the same but for the members and the sizes of a record
pub record SaysAs (d e : Desc) : Type 0 where
  pub alike : core d ≡ core e
  pub alias : (m : Mark) (t : TypeRef) → e ≡ desc.Alias m t → d ≡ desc.Alias m t
  pub own : is_alias e ≡ false → is_alias d ≡ false
  pub opened : is_open d ≡ is_open e

says_same : (d : Desc) → SaysAs d d
says_same d = record { alike = refl; alias = λ m t e. e; own = λ e. e; opened = refl }

laid_says : (w p : TypeRef → ℕ) (q : QName) (ms ks : List Method) (d : Desc) → SaysAs (with_methods ms d) (laid_desc w p q (with_methods ks d))
laid_says w p q ms ks (desc.Record r) = record { alike = refl; alias = λ m t e. absurd (no m t e); own = λ e. refl; opened = refl }
  where
    no : (m : Mark) (t : TypeRef) → laid_desc w p q (with_methods ks (desc.Record r)) ≡ desc.Alias m t → ⊥
    no m t e = absurd cc
laid_says w p q ms ks (desc.Const v) = says_same (desc.Const v)
laid_says w p q ms ks (desc.Var m t) = says_same (desc.Var m t)
laid_says w p q ms ks (desc.Proc s) = says_same (desc.Proc s)
laid_says w p q ms ks (desc.Alias m t) = says_same (desc.Alias m t)
laid_says w p q ms ks (desc.Array m n t) = says_same (desc.Array m n t)
laid_says w p q ms ks (desc.OpenArray m t) = says_same (desc.OpenArray m t)
laid_says w p q ms ks (desc.Pointer m t) = says_same (desc.Pointer m t)
laid_says w p q ms ks (desc.ProcType m s) = says_same (desc.ProcType m s)

blank_says : (d : Desc) → SaysAs (blank d) d
blank_says (desc.Record r) = record { alike = refl; alias = λ m t e. absurd (no m t e); own = λ e. refl; opened = refl }
  where
    no : (m : Mark) (t : TypeRef) → desc.Record r ≡ desc.Alias m t → ⊥
    no m t e = absurd cc
blank_says (desc.Const v) = says_same (desc.Const v)
blank_says (desc.Var m t) = says_same (desc.Var m t)
blank_says (desc.Proc s) = says_same (desc.Proc s)
blank_says (desc.Alias m t) = says_same (desc.Alias m t)
blank_says (desc.Array m n t) = says_same (desc.Array m n t)
blank_says (desc.OpenArray m t) = says_same (desc.OpenArray m t)
blank_says (desc.Pointer m t) = says_same (desc.Pointer m t)
blank_says (desc.ProcType m s) = says_same (desc.ProcType m s)

same_some : (d e : Desc) → Some d ≡ Some e → d ≡ e
same_some d e h = cc

-- a name that some type has is found
pub record Found (own : List TypedType) (x : List ℕ) : Type 0 where
  pub t : TypedType
  pub is : find (λ t. bytes_eq t.name x) own ≡ Some t
  pub there : IsOneOf own t
  pub name : t.name ≡ x

has_found : (own : List TypedType) (x : List ℕ) → HasName own x → Found own x
has_found [] x h = absurd h.1.0
has_found (s ∷ own) x h = by (bytes_eq s.name x) refl (λ i. has_found own x (rest i h))
  where
    rest : bytes_eq s.name x ≡ false → HasName (s ∷ own) x → HasName own x
    rest i (t, (inl e, n)) = absurd (false≢true (sym i ∙ (bytes_eq-Decides s.name x).1 (ap (λ (y : TypedType). y.name) e ∙ n)))
    rest i (t, (inr j, n)) = (t, (j, n))

    by : (b : Bool) → bytes_eq s.name x ≡ b → (bytes_eq s.name x ≡ false → Found own x) → Found (s ∷ own) x
    by true i r = record { t = s; is = ap (λ b. cond b (Some s) (find (λ t. bytes_eq t.name x) own)) i; there = inl refl; name = (bytes_eq-Decides s.name x).0 i }
    by false i r = let k = r i in record { t = k.t; is = ap (λ b. cond b (Some s) (find (λ t. bytes_eq t.name x) own)) i ∙ k.is; there = inr k.there; name = k.name }

-- ---- of a module over the interfaces that it was compiled against

module _ (faces : List (Face Text)) (m : TypedModule) (types_are : AllByRecursion (λ t. is_type t.desc ≡ true) m.types) (differ : AreDistinct (λ t. t.name) m.types) (outside : IsGrounded (described faces)) (apart : AllByRecursion (λ f. bytes_eq f.«module» m.name ≡ false) faces) (no_out : HaveNoOut faces) where
  abbrev laid : Module
  laid = laid_out (described faces) (module_view m)

  abbrev V : QName → Option Desc
  V = viewed (described faces) laid

  abbrev words : TypeRef → ℕ
  words = words_in (described faces) (module_view m)

  abbrev procedures : TypeRef → ℕ
  procedures = procedures_in (described faces) (module_view m)

  abbrev in_m : List ℕ → QName
  in_m x = record { «module» = m.name; object = x }

  -- a type of the module by its name
  own_found : (s : TypedType) → IsOneOf m.types s → (q : QName) → bytes_eq q.«module» m.name ≡ true → s.name ≡ q.object → V q ≡ Some (laid_desc words procedures (in_m s.name) s.desc)
  own_found s i q own n =
      let f : IsFound (described faces) (module_view m) m.types s = one_all (IsFound (described faces) (module_view m) m.types) m.types s (all_found (described faces) (module_view m) m.types differ) i in
      ap (λ b. cond b (type_named laid.types q.object) (described faces q)) own ∙ subst (λ x. type_named laid.types x ≡ Some (laid_desc words procedures (in_m s.name) s.desc)) n f

  foreign : (q : QName) → bytes_eq q.«module» m.name ≡ false → V q ≡ described faces q
  foreign q e = ap (λ b. cond b (type_named laid.types q.object) (described faces q)) e

  -- ---- what other modules show

  -- no interface is of the module itself
  not_here : (fs : List (Face Text)) → AllByRecursion (λ f. bytes_eq f.«module» m.name ≡ false) fs → (q : QName) (d : Desc) → described fs q ≡ Some d → bytes_eq q.«module» m.name ≡ false
  not_here [] a q d e = absurd cc
  not_here (f ∷ fs) a q d e = by (bytes_eq q.«module» f.«module») refl e (not_here fs a.1 q d)
    where
      by : (b : Bool) → bytes_eq q.«module» f.«module» ≡ b → (cond b (Some f) (face_named fs q.«module») >>= λ (g : Face Text). object_named g.objects q.object) ≡ Some d → (described fs q ≡ Some d → bytes_eq q.«module» m.name ≡ false) → bytes_eq q.«module» m.name ≡ false
      by true i e r = ap (λ (x : List ℕ). bytes_eq x m.name) (bytes_true q.«module» f.«module» i) ∙ a.0
      by false i e r = r e

  not_out : (q : QName) (d : Desc) → described faces q ≡ Some d → same_name q out_string ≡ false
  not_out q d e = by (bytes_eq q.«module» (codes "Out")) refl
    where
      by : (b : Bool) → bytes_eq q.«module» (codes "Out") ≡ b → same_name q out_string ≡ false
      by true i = let bad : None ≡ Some d = sym (out_none faces no_out q i) ∙ e in absurd cc
      by false i = ap (λ b. b && bytes_eq q.object out_string.object) i

  module _ (w : Around) (unit_is : w.unit ≡ m.name) (shown_is : w.shown ≡ shown faces) (aliases : AllByRecursion (λ s. AliasStands m.name (shown faces) w.own s.desc) w.own) (told : (t : TypedType) → IsOneOf w.own t → IsSameType m.types t) where
    abbrev S : TypeRef → Type 0
    S t = Stands m.name (shown faces) w.own t

    -- what is held outside stands
    held_stands : (t : TypeRef) → IsHeld (described faces) t → S t
    held_stands (ref.Basic b) h = tt
    held_stands (ref.Named q) h = by (described faces q) refl h
      where
        by : (o : Option Desc) → described faces q ≡ o → MatchOption o ⊥ (λ d. IsTrue (is_type d)) → S (ref.Named q)
        by None e h = absurd h
        by (Some d) e h =
            let there : IsTypeDesc (shown faces q) = subst (λ o. IsTypeDesc (option_map blank o)) (sym e) (blank_type_is d ∙ h) in
            (not_out q d e, subst (λ b. StandsBy b (shown faces) w.own q) (sym (not_here faces apart q d e)) there)

    -- ---- a type that stands, where it stands and where the module was compiled

    pub record Look (q : QName) (e : Desc) : Type 0 where
      pub d : Desc
      pub there : map_of w q ≡ Some d
      pub says : SaysAs d e
      pub on : (k : Mark) (t : TypeRef) → e ≡ desc.Alias k t → S t

    alias_on : (d : Desc) (k : Mark) (t : TypeRef) → AliasStands m.name (shown faces) w.own d → d ≡ desc.Alias k t → S t
    alias_on d k t h e = subst (AliasStands m.name (shown faces) w.own) e h

    pub look : (q : QName) (e : Desc) → S (ref.Named q) → V q ≡ Some e → Look q e
    look q e s v = by (bytes_eq q.«module» m.name) refl s.1
      where
        by : (b : Bool) → bytes_eq q.«module» m.name ≡ b → StandsBy b (shown faces) w.own q → Look q e
        by true own h =
            let f = has_found w.own q.object h in
            let r = told f.t f.there in
            let is : V q ≡ Some (laid_desc words procedures (in_m r.s.name) r.s.desc) = own_found r.s r.there q own (r.name ∙ f.name) in
            let same : laid_desc words procedures (in_m r.s.name) r.s.desc ≡ e = same_some _ e (sym is ∙ v) in
            let laid_is : SaysAs (with_methods r.here.0 r.d) e = subst (SaysAs (with_methods r.here.0 r.d)) (ap (λ d. laid_desc words procedures (in_m r.s.name) d) (sym r.told.1) ∙ same) (laid_says words procedures (in_m r.s.name) r.here.0 r.told.0 r.d) in
            let says : SaysAs f.t.desc e = subst (λ d. SaysAs d e) (sym r.here.1) laid_is in
            record {
              d = f.t.desc;
              there = ap (λ b. type_desc b (same_name q out_string) w q) (ap (bytes_eq q.«module») unit_is ∙ own) ∙ ap own_desc f.is;
              says = says;
              on = λ k t i. alias_on f.t.desc k t (one_all (λ (s : TypedType). AliasStands m.name (shown faces) w.own s.desc) w.own f.t aliases f.there) (says.alias k t i);
            }
        by false own h =
            let out : described faces q ≡ Some e = sym (foreign q own) ∙ v in
            record {
              d = blank e;
              there = ap (λ b. type_desc b (same_name q out_string) w q) (ap (bytes_eq q.«module») unit_is ∙ own) ∙ ap (λ b. type_desc false b w q) s.0 ∙ ap (λ f. f q) shown_is ∙ ap (option_map blank) out;
              says = blank_says e;
              on = λ k t i. held_stands t (subst (λ x. AllByRecursion (λ t. IsHeld (described faces) t) (named_by x)) i (outside.held q e out)).0;
            }

    -- ---- an open array where the module was compiled is one where the type stands

    abbrev IsOpenAt : ℕ → TypeRef → Type 0
    IsOpenAt n t = is_some (open_at (shape_at (map_of w) (target (map_of w) n t))) ≡ true

    step : (n : ℕ) (q : QName) (k : Mark) (t : TypeRef) → map_of w q ≡ Some (desc.Alias k t) → target (map_of w) (suc n) (ref.Named q) ≡ target (map_of w) n t
    unfolding target
    step n q k t e = ap (λ o. follow (target_of o) (ref.Named q) (λ u. target (map_of w) n u)) e

    at_itself : (n : ℕ) (q : QName) (d : Desc) → map_of w q ≡ Some d → is_alias d ≡ false → is_open d ≡ true → IsOpenAt n (ref.Named q)
    at_itself n q d e a o = ap (λ t. is_some (open_at (shape_at (map_of w) t))) (target_own (map_of w) q d e a n) ∙ sym (ap (λ t. is_some (open_at (shape_at (map_of w) t))) (target_own (map_of w) q d e a 201)) ∙ open_own (map_of w) q d e a ∙ o

    within_next : (n : ℕ) (q : QName) (k : Mark) (t : TypeRef) → V q ≡ Some (desc.Alias k t) → IsWithin V (suc n) (ref.Named q) → IsWithin V n t
    unfolding IsWithin
    within_next n q k t e h = (subst (λ o. MatchOption o ⊥ (λ d. IsTrue (is_type d) × AllByRecursion (λ t. IsWithin V n t) (stands_on d))) e h).1.0

    within_none : (q : QName) → IsWithin V zero (ref.Named q) → ⊥
    unfolding IsWithin
    within_none q h = h

    open_own_not : (d : Desc) → is_open d ≡ true → is_alias d ≡ false
    open_own_not (desc.Alias m t) e = absurd cc
    open_own_not (desc.OpenArray m t) e = refl
    open_own_not (desc.Const v) e = absurd cc
    open_own_not (desc.Var m t) e = absurd cc
    open_own_not (desc.Proc s) e = absurd cc
    open_own_not (desc.Array m n t) e = absurd cc
    open_own_not (desc.Pointer m t) e = absurd cc
    open_own_not (desc.ProcType m s) e = absurd cc
    open_own_not (desc.Record r) e = absurd cc

    open_back : (n : ℕ) (t : TypeRef) (p : QName) (e : Desc) → StandsFor V t (ref.Named p) → V p ≡ Some e → is_open e ≡ true → S t → IsWithin V n t → IsOpenAt n t
    open_back n _ p e (itself own) f o s i = let l = look p e s f in at_itself n p l.d l.there (l.says.own (open_own_not e o)) (l.says.opened ∙ o)
    open_back zero _ p e (equated {q = q} {m = k} {t = t} g st) f o s i = absurd (within_none q i)
    open_back (suc n) _ p e (equated {q = q} {m = k} {t = t} g st) f o s i =
        let l = look q (desc.Alias k t) s g in
        let there : map_of w q ≡ Some (desc.Alias k t) = l.there ∙ ap (λ x. Some x) (l.says.alias k t refl) in
        subst (λ x. is_some (open_at (shape_at (map_of w) x)) ≡ true) (sym (step n q k t there)) (open_back n t p e st f o (l.on k t refl) (within_next n q k t g i))

    closed_here : (t : TypeRef) → S t → IsWithin V 201 t → shapes.is_open (map_of w) t ≡ false → Is V is_open t → ⊥
    closed_here t s i shut k = by (V k.0) refl k.1.1
      where
        by : (o : Option Desc) → V k.0 ≡ o → MatchOption o ⊥ (λ d. IsTrue (is_open d)) → ⊥
        by None e h = h
        by (Some d) e h = false≢true (sym shut ∙ open_back 201 t k.0 d k.1.0 e h s i)

    -- what stands is a type where the module was compiled
    pub held_here : (t : TypeRef) → S t → IsHeld V t
    held_here (ref.Basic b) s = tt
    held_here (ref.Named q) s = by (bytes_eq q.«module» m.name) refl s.1
      where
        by : (b : Bool) → bytes_eq q.«module» m.name ≡ b → StandsBy b (shown faces) w.own q → IsHeld V (ref.Named q)
        by true own h =
            let f = has_found w.own q.object h in
            let r = told f.t f.there in
            let is : V q ≡ Some (laid_desc words procedures (in_m r.s.name) r.s.desc) = own_found r.s r.there q own (r.name ∙ f.name) in
            subst (λ o. MatchOption o ⊥ (λ d. IsTrue (is_type d))) (sym is) (laid_type_is words procedures (in_m r.s.name) r.s.desc ∙ one_all (λ (t : TypedType). is_type t.desc ≡ true) m.types r.s types_are r.there)
        by false own h = subst (λ o. MatchOption o ⊥ (λ d. IsTrue (is_type d))) (sym (foreign q own)) (unblank (described faces q) h)
          where
            unblank : (o : Option Desc) → IsTypeDesc (option_map blank o) → MatchOption o ⊥ (λ d. IsTrue (is_type d))
            unblank None h = absurd h
            unblank (Some d) h = sym (blank_type_is d) ∙ h

  -- ---- variables

  pub variables_held : (vs : List TypedVariable) → AllByRecursion (IsDeclaredWell m.name (shown faces) m.types) vs → AllByRecursion (λ v. IsHeld V v.of) vs
  variables_held [] h = tt
  variables_held (v ∷ vs) h = (held_here h.0.w h.0.unit_is h.0.shown_is h.0.aliases h.0.told v.of h.0.stands, variables_held vs h.1)

  pub variables_closed : IsGrounded V → (vs : List TypedVariable) → AllByRecursion (IsDeclaredWell m.name (shown faces) m.types) vs → AllByRecursion (λ v. Is V is_open v.of → ⊥) vs
  variables_closed g [] h = tt
  variables_closed g (v ∷ vs) h = (
    closed_here h.0.w h.0.unit_is h.0.shown_is h.0.aliases h.0.told v.of h.0.stands (g.chains v.of (held_here h.0.w h.0.unit_is h.0.shown_is h.0.aliases h.0.told v.of h.0.stands)) h.0.closed,
    variables_closed g vs h.1,
  )
