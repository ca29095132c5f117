-- All records of modules that are laid out in order have their words.
use Rattle.std.proofs.Common.{◌≡◌, ⊎_elim, inl, inr, ℕ, ◌≤◌, List, [], ◌∷◌, ◌++◌, map as each, Option, Some, refl, sym, ap, subst, ◌∙◌, arith, append_assoc}
use Rattle.std.specs.Prelude.{Bool, true, false, bytes_eq, cond, MatchOption, IsTrue}
use Rattle.ob_tree.specs.declared.names.QName.{QName}
use Rattle.ob_types.specs.declared.types.TypeRef.{TypeRef}
use Rattle.ob_types.specs.declared.types.TypeRef.TheVariants as ref
use Rattle.ob_types.specs.declared.desc.Desc.{Desc}
use Rattle.ob_types.specs.declared.desc.Desc.TheVariants as desc
use Rattle.ob_types.specs.declared.desc.RecordDesc.{RecordDesc}
use Rattle.ob_types.specs.declared.typed.TypedType.{TypedType}
use Rattle.ob_types.specs.Maps.{is_type}
use Rattle.ob_types.specs.TypedSyntax.{Module}
use Rattle.ob_meaning.specs.Values.{Program, record_in, words, description}
use Rattle.law_simulation_relation.proofs.Names.{bytes_true, bytes_same}
use Rattle.ob_layout.specs.Words.{most_words}
use Rattle.ob_layout.specs.LaidOut.{type_named as own_named, is_own, viewed, words_in, procedures_in, kept, laid_record, laid_desc, laid_type}
use Rattle.law_typing_forms.specs.Said.{IsOneOf, IsSound}
use Rattle.law_typing_forms.specs.Whole.{IsWhole}
use Rattle.law_typing_forms.proofs.Modules.{of_all, type_there}
use Rattle.law_typing_forms.proofs.Staying.{HasMore}
use Rattle.law_typing_env.specs.Words.{IsSmall, IsLaidOver, AreLaidInOrder}
use Rattle.law_typing_env.proofs.Views.{type_found}
use Rattle.law_typing_env.proofs.Ordered.{either_there, types_named}
use Rattle.law_typing_env.proofs.Words.{HaveWords, summed_words}

-- a type that is found among those laid out was found before
pub record LaidFound (types : QName → Option Desc) (c : Module) (ts : List TypedType) (x : List ℕ) (d : Desc) : Type 0 where
  pub t : TypedType
  pub name : t.name ≡ x
  pub has : own_named ts x ≡ Some t.desc
  pub laid : laid_desc (words_in types c) (procedures_in types c) (let p : QName = record { «module» = c.name; object = t.name } in p) t.desc ≡ d

pub laid_found : (types : QName → Option Desc) (c : Module) (ts : List TypedType) (x : List ℕ) (d : Desc) → own_named (each (laid_type types c) ts) x ≡ Some d → LaidFound types c ts x d
laid_found types c [] x d e = absurd cc
laid_found types c (t ∷ ts) x d e = by (bytes_eq x t.name) refl e (λ e. laid_found types c ts x d e)
  where
    by : (b : Bool) → bytes_eq x t.name ≡ b → cond b (Some (laid_type types c t).desc) (own_named (each (laid_type types c) ts) x) ≡ Some d → (own_named (each (laid_type types c) ts) x ≡ Some d → LaidFound types c ts x d) → LaidFound types c (t ∷ ts) x d
    by true n e r = let k : (laid_type types c t).desc ≡ d = cc in record { t = t; name = sym (bytes_true x t.name n); has = ap (λ b. cond b (Some t.desc) (own_named ts x)) n; laid = k }
    by false n e r = let k = r e in record { t = k.t; name = k.name; has = ap (λ b. cond b (Some t.desc) (own_named ts x)) n ∙ k.has; laid = k.laid }

kept_small : (n s : ℕ) → s ≡ kept n → s ≤ most_words → s ≡ n
kept_small n s e le = omega (arith, e, le)

pub laid_words : (w p : TypeRef → ℕ) (q : QName) (d : Desc) (s : RecordDesc) → laid_desc w p q d ≡ desc.Record s → (is_type d ≡ true) × (s.words ≡ kept (w (ref.Named q)))
laid_words w p q (desc.Const v) s e = absurd cc
laid_words w p q (desc.Var m t) s e = absurd cc
laid_words w p q (desc.Proc g) s e = absurd cc
laid_words w p q (desc.Alias m t) s e = absurd cc
laid_words w p q (desc.Array m n t) s e = absurd cc
laid_words w p q (desc.OpenArray m t) s e = absurd cc
laid_words w p q (desc.Pointer m t) s e = absurd cc
laid_words w p q (desc.ProcType m g) s e = absurd cc
laid_words w p q (desc.Record r) s e = let k : laid_record w p q r ≡ s = cc in (refl, sym (ap (λ (x : RecordDesc). x.words) k))

module _ (program : Program) (sound : IsSound program) (whole : IsWhole program) where
  -- one module more
  pub words_more : (before : Program) (m : Module) → IsOneOf program m → HasMore (description before) (description program) → HaveWords program sound whole before → IsLaidOver before m → HaveWords program sound whole (before ++ m ∷ [])
  words_more before m i more known over q s e =
      ⊎_elim
      (λ k. known q s k)
      (λ k.
      let c = over.checked in
      let types = over.over.others in
      let at_m : own_named m.types q.object ≡ Some (desc.Record s) = types_named m.types q.object ∙ k.1 in
      let f = laid_found types c c.types q.object (desc.Record s) (ap (λ ts. own_named ts q.object) (sym over.laid.types_are) ∙ at_m) in
      let unit : q.«module» ≡ c.name = k.0 ∙ over.laid.name in
      let named : (let p : QName = record { «module» = c.name; object = f.t.name } in p) ≡ q = ap (λ (y : List ℕ). let p : QName = record { «module» = y; object = f.t.name } in p) (sym unit) ∙ ap (λ (y : List ℕ). let p : QName = record { «module» = q.«module»; object = y } in p) f.name in
      let laid = laid_words (words_in types c) (procedures_in types c) (record { «module» = c.name; object = f.t.name }) f.t.desc s f.laid in
      let own : is_own c q ≡ true = ap (λ (y : List ℕ). bytes_eq y c.name) unit ∙ bytes_same c.name in
      let seen : viewed types c q ≡ Some f.t.desc = ap (λ b. cond b (own_named c.types q.object) (types q)) own ∙ f.has in
      let sum : words_in types c (ref.Named q) ≡ words (record_in program q) = summed_words program sound whole before m i more known over 201 (ref.Named q) (over.chains (ref.Named q) (subst (λ o. MatchOption o ⊥ (λ d. IsTrue (is_type d))) (sym seen) laid.0)) in
      let x = type_found m.types q.object (desc.Record s) at_m in
      let small : s.words ≤ most_words = subst IsSmall x.desc (of_all (λ t. IsSmall t.desc) m.types x.t over.small x.there) in
      kept_small (words_in types c (ref.Named q)) s.words (laid.1 ∙ ap (λ p. kept (words_in types c (ref.Named p))) named) small ∙ sum)
      (either_there before m over.over before q (desc.Record s) e)

  pub has_more : (before : Program) (m : Module) → IsOneOf program m → HasMore (description before) (description program) → IsLaidOver before m → HasMore (description (before ++ m ∷ [])) (description program)
  has_more before m i more over q d e =
      ⊎_elim
      (λ k. more q d k)
      (λ k.
      let x = type_found m.types q.object d (types_named m.types q.object ∙ k.1) in
      let named : (let p : QName = record { «module» = m.name; object = x.t.name } in p) ≡ q = ap (λ (y : List ℕ). let p : QName = record { «module» = y; object = x.t.name } in p) (sym k.0) ∙ ap (λ (y : List ℕ). let p : QName = record { «module» = q.«module»; object = y } in p) x.name in
      sym (ap (description program) named) ∙ type_there program whole m x.t i x.there ∙ ap (λ y. Some y) x.desc)
      (either_there before m over.over before q d e)

  append_none : (ms : List Module) → ms ++ [] ≡ ms
  append_none [] = refl
  append_none (m ∷ ms) = ap (λ k. m ∷ k) (append_none ms)

  words_in_order : (before : Program) (ms : List Module) → ((m : Module) → IsOneOf ms m → IsOneOf program m) → HasMore (description before) (description program) → HaveWords program sound whole before → AreLaidInOrder before ms → HaveWords program sound whole (before ++ ms)
  words_in_order before [] i more known h = subst (HaveWords program sound whole) (sym (append_none before)) known
  words_in_order before (m ∷ ms) i more known h =
      let here = i m (inl refl) in
      subst (HaveWords program sound whole) (append_assoc before (m ∷ []) ms)
      (words_in_order (before ++ m ∷ []) ms (λ k j. i k (inr j)) (has_more before m here more h.0) (words_more before m here more known h.0) h.1)

  -- ALL RECORDS HAVE THEIR WORDS
  pub program_words : AreLaidInOrder [] program → HaveWords program sound whole program
  program_words h = words_in_order [] program (λ m i. i) (λ q d e. absurd cc) (λ q s e. absurd cc) h
