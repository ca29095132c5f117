-- The records of modules laid out in order have their words and places.
use Rattle.std.proofs.Common.{◌≡◌, ⊎_elim, inl, inr, ℕ, ◌+◌, ◌≤◌, List, [], ◌∷◌, ◌++◌, map as each, Some, refl, sym, ap, subst, ◌∙◌, append_assoc}
use Rattle.std.specs.Prelude.{true, bytes_eq, cond, MatchOption, IsTrue}
use Rattle.std.specs.List.{AllByRecursion}
use Rattle.ob_tree.specs.declared.names.QName.{QName}
use Rattle.ob_types.specs.declared.types.TypeRef.{TypeRef}
use Rattle.ob_types.specs.declared.types.TypeRef.TheVariants as ref
use Rattle.ob_types.specs.declared.desc.Desc.{Desc}
use Rattle.ob_types.specs.declared.desc.Desc.TheVariants as desc
use Rattle.ob_types.specs.declared.desc.RecordDesc.{RecordDesc}
use Rattle.ob_types.specs.declared.desc.Field.{Field}
use Rattle.ob_types.specs.Maps.{is_type, listed, stands_on, IsWithin}
use Rattle.ob_types.proofs.Targets.{more as one_more}
use Rattle.ob_types.specs.TypedSyntax.{Module}
use Rattle.ob_meaning.specs.Values.{Program, Form, own_fields, base_fields, joined, fields_of, fields_words, form_in, record_in, words, description}
use Rattle.law_simulation_relation.specs.Layout.{field_offset}
use Rattle.law_simulation_relation.proofs.Names.{bytes_same}
use Rattle.ob_layout.specs.Lists.{sum_of}
use Rattle.ob_layout.specs.Words.{most_words}
use Rattle.ob_layout.specs.LaidOut.{type_named as own_named, is_own, viewed, base_of, words_in, procedures_in, placed, laid_record, laid_desc}
use Rattle.law_typing_forms.specs.Said.{IsOneOf, HaveNames, IsSound}
use Rattle.law_typing_forms.specs.Whole.{IsWhole}
use Rattle.law_typing_forms.proofs.Within.{form_described, parts_within, all_from}
use Rattle.law_typing_forms.proofs.Built.{base_apart}
use Rattle.law_typing_forms.proofs.Modules.{of_all}
use Rattle.law_typing_forms.proofs.Staying.{HasMore}
use Rattle.law_typing_env.specs.Sized.{IsSized}
use Rattle.law_typing_env.specs.Views.{FieldsDiffer}
use Rattle.law_typing_env.specs.Words.{IsSmall, IsLaidOver, AreLaidInOrder}
use Rattle.law_typing_env.proofs.Views.{type_found}
use Rattle.law_typing_env.proofs.Ordered.{either_there, types_named}
use Rattle.law_typing_env.proofs.Words.{HaveWords, based_words, base_records, record_sum, summed_words}
use Rattle.law_typing_env.proofs.Summed.{laid_found, has_more, words_more}
use Rattle.law_typing_env.proofs.Places.{places_sum, offset_behind}
use Rattle.law_lists.proofs.Lists.{all_back, all_front}

-- a record that is laid out was one before
pub laid_of : (w p : TypeRef → ℕ) (q : QName) (d : Desc) (s : RecordDesc) → laid_desc w p q d ≡ desc.Record s → (r : RecordDesc) × ((d ≡ desc.Record r) × (laid_record w p q r ≡ s))
laid_of w p q (desc.Const v) s e = absurd cc
laid_of w p q (desc.Var m t) s e = absurd cc
laid_of w p q (desc.Proc g) s e = absurd cc
laid_of w p q (desc.Alias m t) s e = absurd cc
laid_of w p q (desc.Array m n t) s e = absurd cc
laid_of w p q (desc.OpenArray m t) s e = absurd cc
laid_of w p q (desc.Pointer m t) s e = absurd cc
laid_of w p q (desc.ProcType m g) s e = absurd cc
laid_of w p q (desc.Record r) s e = let k : laid_record w p q r ≡ s = cc in (r, (refl, k))

each_field : (P : TypeRef → Type 0) (fs : List Field) → AllByRecursion P (each (λ f. f.of) fs) → AllByRecursion (λ f. P f.of) fs
each_field P [] h = tt
each_field P (f ∷ fs) h = (h.0, each_field P fs h.1)

module _ (program : Program) (sound : IsSound program) (whole : IsWhole program) where
  abbrev form : TypeRef → Form
  form = form_in program

  -- A RECORD THAT IS LAID OUT
  laid_places : (q : QName) (r : RecordDesc) (w p : TypeRef → ℕ) → HaveNames r.fields → description program q ≡ Some (desc.Record (laid_record w p q r)) → AllByRecursion (λ t. w t ≡ words (form t)) (listed r.base ++ each (λ f. f.of) r.fields) → words (record_in program q) ≤ most_words → (g : Field) → IsOneOf (placed w (base_of w r.base) r.fields) g → g.place ≡ field_offset (fields_of (record_in program q)) q g.name
  laid_places q r w p names e parts few g i =
      let n = base_of w r.base in
      let b = all_front (λ t. w t ≡ words (form t)) (listed r.base) (each (λ f. f.of) r.fields) parts in
      let o = each_field (λ t. w t ≡ words (form t)) r.fields (all_back (λ t. w t ≡ words (form t)) (listed r.base) (each (λ f. f.of) r.fields) parts) in
      let base : n ≡ fields_words (base_fields form r.base) = based_words program sound whole w r.base b (base_records program sound whole r.base (sound.keeps q (desc.Record (laid_record w p q r)) e).0) in
      let sum : n + sum_of (λ f. w f.of) r.fields ≡ words (record_in program q) = record_sum program sound whole w w p q r e parts in
      let le : n + sum_of (λ f. w f.of) r.fields ≤ most_words = subst (λ k. k ≤ most_words) (sym sum) few in
      let place : g.place ≡ n + field_offset (own_fields form q (placed w n r.fields)) q g.name = places_sum form q w n r.fields g names o le i in
      let fs : fields_of (record_in program q) ≡ joined (base_fields form r.base) (own_fields form q (placed w n r.fields)) = ap fields_of (form_described program sound q (desc.Record (laid_record w p q r)) e) in
      place
      ∙ ap (λ k. k + field_offset (own_fields form q (placed w n r.fields)) q g.name) base
      ∙ sym (offset_behind q g.name (base_fields form r.base) (own_fields form q (placed w n r.fields)) (base_apart program sound q (laid_record w p q r) e))
      ∙ ap (λ ks. field_offset ks q g.name) (sym fs)

  abbrev HavePlaces : Program → Type 0
  HavePlaces ms = (q : QName) (s : RecordDesc) (g : Field) → description ms q ≡ Some (desc.Record s) → IsOneOf s.fields g → g.place ≡ field_offset (fields_of (record_in program q)) q g.name

  -- one module more
  places_more : (before : Program) (m : Module) → IsOneOf program m → HasMore (description before) (description program) → HaveWords program sound whole before → HavePlaces before → (over : IsLaidOver before m) → HavePlaces (before ++ m ∷ [])
  places_more before m i more known known_places over q s g e j =
      ⊎_elim
      (λ k. known_places q s g k j)
      (λ k.
      let c = over.checked in
      let types = over.over.others in
      let w = words_in types c in
      let p = procedures_in types c in
      let at_m : own_named m.types q.object ≡ Some (desc.Record s) = types_named m.types q.object ∙ k.1 in
      let f = laid_found types c c.types q.object (desc.Record s) (ap (λ ts. own_named ts q.object) (sym over.laid.types_are) ∙ at_m) in
      let unit : q.«module» ≡ c.name = k.0 ∙ over.laid.name in
      let named : (let n : QName = record { «module» = c.name; object = f.t.name } in n) ≡ q = ap (λ (y : List ℕ). let n : QName = record { «module» = y; object = f.t.name } in n) (sym unit) ∙ ap (λ (y : List ℕ). let n : QName = record { «module» = q.«module»; object = y } in n) f.name in
      let l = laid_of w p q f.t.desc s (ap (λ n. laid_desc w p n f.t.desc) (sym named) ∙ f.laid) in
      let in_program : description program q ≡ Some (desc.Record (laid_record w p q l.0)) = has_more program sound whole before m i more over q (desc.Record s) e ∙ ap (λ x. Some (desc.Record x)) (sym l.1.1) in
      let own : is_own c q ≡ true = ap (λ (y : List ℕ). bytes_eq y c.name) unit ∙ bytes_same c.name in
      let view : viewed types c q ≡ Some (desc.Record l.0) = ap (λ b. cond b (own_named c.types q.object) (types q)) own ∙ f.has ∙ ap (λ x. Some x) l.1.0 in
      let within : IsWithin (viewed types c) 201 (ref.Named q) = over.chains (ref.Named q) (subst (λ o. MatchOption o ⊥ (λ d. IsTrue (is_type d))) (sym view) refl) in
      let parts = all_from (λ t. IsWithin (viewed types c) 200 t) (λ t. w t ≡ words (form t)) (λ t h. summed_words program sound whole before m i more known over 201 t (one_more (viewed types c) 200 t h)) (stands_on (desc.Record l.0)) (parts_within (viewed types c) 200 q (desc.Record l.0) view within) in
      let checked = type_found c.types q.object f.t.desc f.has in
      let names : HaveNames l.0.fields = subst FieldsDiffer (checked.desc ∙ l.1.0) (of_all (λ t. FieldsDiffer t.desc) c.types checked.t over.laid.fields checked.there) in
      let x = type_found m.types q.object (desc.Record s) at_m in
      let small : s.words ≤ most_words = subst IsSmall x.desc (of_all (λ t. IsSmall t.desc) m.types x.t over.small x.there) in
      let few : words (record_in program q) ≤ most_words = subst (λ n. n ≤ most_words) (words_more program sound whole before m i more known over q s e) small in
      laid_places q l.0 w p names in_program parts few g (subst (λ (y : RecordDesc). IsOneOf y.fields g) (sym l.1.1) j))
      (either_there before m over.over before q (desc.Record s) e)

  append_none : (ms : List Module) → ms ++ [] ≡ ms
  append_none [] = refl
  append_none (m ∷ ms) = ap (λ k. m ∷ k) (append_none ms)

  abbrev Both : Program → Type 0
  Both ms = HaveWords program sound whole ms × HavePlaces ms

  in_turn : (before : Program) (ms : List Module) → ((m : Module) → IsOneOf ms m → IsOneOf program m) → HasMore (description before) (description program) → Both before → AreLaidInOrder before ms → Both (before ++ ms)
  in_turn before [] i more known h = subst Both (sym (append_none before)) known
  in_turn before (m ∷ ms) i more known h =
      let here = i m (inl refl) in
      let over = h.0 in
      subst Both (append_assoc before (m ∷ []) ms)
      (in_turn (before ++ m ∷ []) ms (λ k j. i k (inr j)) (has_more program sound whole before m here more over) (words_more program sound whole before m here more known.0 over, places_more before m here more known.0 known.1 over) h.1)

  -- ALL RECORDS ARE SIZED
  pub program_sized : AreLaidInOrder [] program → IsSized program
  program_sized h =
      let both = in_turn [] program (λ m i. i) (λ q d e. absurd cc) (λ q s e. absurd cc, λ q s g e j. absurd cc) h in
      record { words_are = both.0; places = both.1 }
