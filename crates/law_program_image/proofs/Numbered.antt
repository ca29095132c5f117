-- The numbers of the bound procedures that records introduce, in modules that are laid out in order.
use Rattle.std.proofs.Common.{◌≡◌, ⊎_elim, inl, inr, ℕ, zero, suc, ◌+◌, ◌≤◌, ◌<◌, List, [], ◌∷◌, ◌++◌, length, map as each, Option, Some, None, refl, sym, ap, subst, ◌∙◌, arith, append_assoc}
use Rattle.std.specs.Prelude.{Bool, true, false, bytes_eq, cond, MatchOption, IsTrue}
use Rattle.std.specs.List.{AllByRecursion}
use Rattle.ob_tree.specs.declared.names.QName.{QName}
use Rattle.ob_types.specs.declared.types.TypeRef.{TypeRef}
use Rattle.ob_types.specs.declared.types.TypeRef.TheVariants as ref
use Rattle.ob_types.specs.declared.desc.Desc.{Desc}
use Rattle.ob_types.specs.declared.desc.Desc.TheVariants as desc
use Rattle.ob_types.specs.declared.desc.Method.{Method}
use Rattle.ob_types.specs.declared.desc.RecordDesc.{RecordDesc}
use Rattle.ob_types.specs.declared.typed.TypedType.{TypedType}
use Rattle.ob_types.specs.Maps.{is_type, listed, stands_on, IsWithin}
use Rattle.ob_types.specs.TypedSyntax.{Module}
use Rattle.ob_meaning.specs.Values.{Program, Form, line_of, base_line, form_in, description}
use Rattle.ob_layout.specs.Members.{method_named}
use Rattle.ob_layout.specs.LaidOut.{type_named as own_named, is_own, viewed, base_of as laid_base, declared_procedures, counted as laid_count, words_in, procedures_in, numbered, laid_record, laid_desc, laid_type}
use Rattle.law_simulation_relation.specs.Relation.{head}
use Rattle.law_simulation_relation.proofs.Names.{bytes_true, bytes_same}
use Rattle.law_typing_forms.specs.Said.{IsOneOf, IsSound}
use Rattle.law_typing_forms.specs.Whole.{IsWhole}
use Rattle.law_typing_forms.proofs.Within.{form_described, parts_within, all_from}
use Rattle.law_typing_forms.proofs.Shapes.{basic_is}
use Rattle.law_typing_forms.proofs.Modules.{type_there}
use Rattle.law_typing_forms.proofs.Staying.{HasMore}
use Rattle.law_typing_env.specs.Ordered.{bare}
use Rattle.law_typing_env.specs.Words.{IsLaidOver, AreLaidInOrder}
use Rattle.law_typing_env.proofs.Views.{type_found, one_each}
use Rattle.law_typing_env.proofs.Ordered.{either_there, types_named}
use Rattle.law_typing_env.proofs.Summed.{laid_found, has_more}
use Rattle.law_typing_env.proofs.Sizing.{laid_of}
use Rattle.law_image_tables.specs.Declared.{above, base_of}
use Rattle.law_image_tables.specs.Counted.{counted, count_below, MethodsNumbered}
use Rattle.law_program_image.specs.Numbers.{MethodsAreNumbered}
use Rattle.law_lists.proofs.Lists.{all_front}

-- ---- numbers in turn

abbrev number_in : Option Method → ℕ
number_in None = 0
number_in (Some m) = m.number

numbers_from : (x : List ℕ) (n : ℕ) (ms : List Method) (m : Method) → method_named x (numbered n ms) ≡ Some m → (n ≤ m.number) × (m.number < n + length ms)
numbers_from x n [] m e = absurd cc
numbers_from x n (p ∷ ps) m e = by (bytes_eq x p.name) e (λ e. numbers_from x (suc n) ps m e)
  where
    by : (b : Bool) → cond b (Some (record p { number = n })) (method_named x (numbered (suc n) ps)) ≡ Some m → (method_named x (numbered (suc n) ps) ≡ Some m → (suc n ≤ m.number) × (m.number < suc n + length ps)) → (n ≤ m.number) × (m.number < n + suc (length ps))
    by true e r = let k : n ≡ m.number = ap number_in e in (omega (arith, k), omega (arith, k))
    by false e r = let h = r e in let a = h.0 in let b = h.1 in (omega (arith, a), omega (arith, b))

numbers_apart : (x y : List ℕ) (n : ℕ) (ms : List Method) (m k : Method) → method_named x (numbered n ms) ≡ Some m → method_named y (numbered n ms) ≡ Some k → m.number ≡ k.number → x ≡ y
numbers_apart x y n [] m k e f same = absurd cc
numbers_apart x y n (p ∷ ps) m k e f same = by (bytes_eq x p.name) (bytes_eq y p.name) refl refl e f (λ e f. numbers_apart x y (suc n) ps m k e f same)
  where
    rest : List ℕ → Option Method
    rest z = method_named z (numbered (suc n) ps)

    by : (a b : Bool) → bytes_eq x p.name ≡ a → bytes_eq y p.name ≡ b → cond a (Some (record p { number = n })) (rest x) ≡ Some m → cond b (Some (record p { number = n })) (rest y) ≡ Some k → (rest x ≡ Some m → rest y ≡ Some k → x ≡ y) → x ≡ y
    by true true i j e f r = bytes_true x p.name i ∙ sym (bytes_true y p.name j)
    by true false i j e f r = let a : n ≡ m.number = ap number_in e in let b = (numbers_from y (suc n) ps k f).0 in absurd (omega (arith, a, b, same))
    by false true i j e f r = let a : n ≡ k.number = ap number_in f in let b = (numbers_from x (suc n) ps m e).0 in absurd (omega (arith, a, b, same))
    by false false i j e f r = r e f

-- ---- what is counted of a type of another module does not ask for members

bare_count : (f : TypeRef → ℕ) (d : Desc) → declared_procedures f false (Some (bare d)) ≡ declared_procedures f false (Some d)
bare_count f (desc.Const v) = refl
bare_count f (desc.Var m t) = refl
bare_count f (desc.Proc s) = refl
bare_count f (desc.Alias m t) = refl
bare_count f (desc.Array m n t) = refl
bare_count f (desc.OpenArray m t) = refl
bare_count f (desc.Pointer m t) = refl
bare_count f (desc.ProcType m s) = refl
bare_count f (desc.Record r) = refl

abbrev alias_of : Desc → Option TypeRef
alias_of (desc.Alias m t) = Some t
alias_of d = None

bare_alias : (d : Desc) → alias_of (bare d) ≡ alias_of d
bare_alias (desc.Const v) = refl
bare_alias (desc.Var m t) = refl
bare_alias (desc.Proc s) = refl
bare_alias (desc.Alias m t) = refl
bare_alias (desc.Array m n t) = refl
bare_alias (desc.OpenArray m t) = refl
bare_alias (desc.Pointer m t) = refl
bare_alias (desc.ProcType m s) = refl
bare_alias (desc.Record r) = refl

alias_stands : (P : TypeRef → Type 0) (d : Desc) (t : TypeRef) → alias_of d ≡ Some t → AllByRecursion P (stands_on d) → P t
alias_stands P (desc.Alias m u) t e h = let k : u ≡ t = cc in subst P k h.0
alias_stands P (desc.Const v) t e h = absurd cc
alias_stands P (desc.Var m u) t e h = absurd cc
alias_stands P (desc.Proc s) t e h = absurd cc
alias_stands P (desc.Array m n u) t e h = absurd cc
alias_stands P (desc.OpenArray m u) t e h = absurd cc
alias_stands P (desc.Pointer m u) t e h = absurd cc
alias_stands P (desc.ProcType m s) t e h = absurd cc
alias_stands P (desc.Record r) t e h = absurd cc

module _ (program : Program) (sound : IsSound program) (whole : IsWhole program) where
  -- the count of a type that is a record, by the program
  abbrev count : TypeRef → ℕ
  count t = count_below program (head (line_of (form_in program t)))

  abbrev count_form : Form → ℕ
  count_form x = count_below program (head (line_of x))

  count_basic : (b : TypeRef) (x : Form) → form_in program b ≡ x → line_of x ≡ [] → 0 ≡ count b
  count_basic b x e none = sym (ap count_form e ∙ ap (λ l. count_below program (head l)) none)

  count_record : (q : QName) (r : RecordDesc) → description program q ≡ Some (desc.Record r) → count (ref.Named q) ≡ r.procedures
  count_record q r e = ap count_form (form_described program sound q (desc.Record r) e) ∙ ap counted e

  -- by what the program declares
  declared_count : (f : TypeRef → ℕ) (q : QName) (d : Desc) → description program q ≡ Some d → ((t : TypeRef) → alias_of d ≡ Some t → f t ≡ count t) → declared_procedures f false (Some d) ≡ count (ref.Named q)
  declared_count f q (desc.Const v) e h = sym (ap count_form (form_described program sound q (desc.Const v) e))
  declared_count f q (desc.Var m t) e h = sym (ap count_form (form_described program sound q (desc.Var m t) e))
  declared_count f q (desc.Proc s) e h = sym (ap count_form (form_described program sound q (desc.Proc s) e))
  declared_count f q (desc.Alias m t) e h = h t refl ∙ sym (ap count_form (form_described program sound q (desc.Alias m t) e))
  declared_count f q (desc.Array m n t) e h = sym (ap count_form (form_described program sound q (desc.Array m n t) e))
  declared_count f q (desc.OpenArray m t) e h = sym (ap count_form (form_described program sound q (desc.OpenArray m t) e))
  declared_count f q (desc.Pointer m t) e h = sym (ap count_form (form_described program sound q (desc.Pointer m t) e))
  declared_count f q (desc.ProcType m s) e h = sym (ap count_form (form_described program sound q (desc.ProcType m s) e))
  declared_count f q (desc.Record r) e h = sym (count_record q r e)

  count_base : (f : TypeRef → ℕ) (o : Option TypeRef) → AllByRecursion (λ t. f t ≡ count t) (listed o) → laid_base f o ≡ laid_base count o
  count_base f None h = refl
  count_base f (Some t) h = h.0

  module _ (before : Program) (m : Module) (i : IsOneOf program m) (more : HasMore (description before) (description program)) (over : IsLaidOver before m) where
    abbrev others : QName → Option Desc
    others = over.over.others

    abbrev seen : QName → Option Desc
    seen = viewed others over.checked

    abbrev so_far : ℕ → TypeRef → ℕ
    so_far k t = laid_count others over.checked k t

    -- a type of the module, as the program has it laid out
    own_laid : (q : QName) (t : TypedType) → q.«module» ≡ over.checked.name → IsOneOf over.checked.types t → t.name ≡ q.object → description program q ≡ Some (laid_desc (words_in others over.checked) (procedures_in others over.checked) q t.desc)
    own_laid q t n j x =
        let l = laid_type others over.checked t in
        let there : IsOneOf m.types l = subst (λ ts. IsOneOf ts l) (sym over.laid.types_are) (one_each (laid_type others over.checked) over.checked.types t j) in
        let named : (let p : QName = record { «module» = over.checked.name; object = t.name } in p) ≡ q = ap (λ (y : List ℕ). let p : QName = record { «module» = y; object = t.name } in p) (sym n) ∙ ap (λ (y : List ℕ). let p : QName = record { «module» = q.«module»; object = y } in p) x in
        let of_m : (let p : QName = record { «module» = m.name; object = t.name } in p) ≡ q = ap (λ (y : List ℕ). let p : QName = record { «module» = y; object = t.name } in p) over.laid.name ∙ named in
        sym (ap (description program) of_m) ∙ type_there program whole m l i there ∙ ap (λ p. Some (laid_desc (words_in others over.checked) (procedures_in others over.checked) p t.desc)) named

    -- A record of the module, whose base is counted so
    record_count : (f : TypeRef → ℕ) (q : QName) (r : RecordDesc) → is_own over.checked q ≡ true → seen q ≡ Some (desc.Record r) → description program q ≡ Some (desc.Record (laid_record (words_in others over.checked) (procedures_in others over.checked) q r)) → AllByRecursion (λ t. f t ≡ count t) (listed r.base) → AllByRecursion (λ t. so_far 200 t ≡ count t) (listed r.base) → laid_base f r.base + length r.methods ≡ count (ref.Named q)
    record_count f q r own e there h k =
        let here : so_far 201 (ref.Named q) ≡ laid_base (so_far 200) r.base + length r.methods = ap (λ b. declared_procedures (so_far 200) b (seen q)) own ∙ ap (declared_procedures (so_far 200) true) e in
        ap (λ n. n + length r.methods) (count_base f r.base h ∙ sym (count_base (so_far 200) r.base k))
        ∙ sym here
        ∙ sym (count_record q (laid_record (words_in others over.checked) (procedures_in others over.checked) q r) there)

    own_count : (f : TypeRef → ℕ) (q : QName) (d : Desc) → is_own over.checked q ≡ true → seen q ≡ Some d → description program q ≡ Some (laid_desc (words_in others over.checked) (procedures_in others over.checked) q d) → AllByRecursion (λ t. f t ≡ count t) (stands_on d) → AllByRecursion (λ t. so_far 200 t ≡ count t) (stands_on d) → declared_procedures f true (Some d) ≡ count (ref.Named q)
    own_count f q (desc.Const v) own e there h k = declared_count f q (desc.Const v) there (λ t a. absurd cc)
    own_count f q (desc.Var m t) own e there h k = declared_count f q (desc.Var m t) there (λ t a. absurd cc)
    own_count f q (desc.Proc s) own e there h k = declared_count f q (desc.Proc s) there (λ t a. absurd cc)
    own_count f q (desc.Alias m t) own e there h k = declared_count f q (desc.Alias m t) there (λ u a. alias_stands (λ t. f t ≡ count t) (desc.Alias m t) u a h)
    own_count f q (desc.Array m n t) own e there h k = declared_count f q (desc.Array m n t) there (λ t a. absurd cc)
    own_count f q (desc.OpenArray m t) own e there h k = declared_count f q (desc.OpenArray m t) there (λ t a. absurd cc)
    own_count f q (desc.Pointer m t) own e there h k = declared_count f q (desc.Pointer m t) there (λ t a. absurd cc)
    own_count f q (desc.ProcType m s) own e there h k = declared_count f q (desc.ProcType m s) there (λ t a. absurd cc)
    own_count f q (desc.Record r) own e there h k = record_count f q r own e there (all_front (λ t. f t ≡ count t) (listed r.base) (each (λ x. x.of) r.fields) h) (all_front (λ t. so_far 200 t ≡ count t) (listed r.base) (each (λ x. x.of) r.fields) k)

    other_count : (f : TypeRef → ℕ) (q : QName) (e d : Desc) → description before q ≡ Some e → bare e ≡ bare d → AllByRecursion (λ t. f t ≡ count t) (stands_on d) → declared_procedures f false (Some d) ≡ count (ref.Named q)
    other_count f q e d there same h =
        sym (bare_count f d) ∙ ap (λ (x : Desc). declared_procedures f false (Some x)) (sym same) ∙ bare_count f e
        ∙ declared_count f q e (more q e there) (λ t a. alias_stands (λ t. f t ≡ count t) d t (sym (bare_alias d) ∙ ap alias_of (sym same) ∙ bare_alias e ∙ a) h)

    -- what the layout counts is the count of the type
    counted_is : (n k : ℕ) (t : TypeRef) → n ≤ k → n ≤ 201 → IsWithin seen n t → so_far k t ≡ count t
    unfolding IsWithin
    counted_is n zero (ref.Basic b) le few h = count_basic (ref.Basic b) _ (basic_is program b) refl
    counted_is n (suc k) (ref.Basic b) le few h = count_basic (ref.Basic b) _ (basic_is program b) refl
    counted_is zero zero (ref.Named q) le few h = absurd h
    counted_is zero (suc k) (ref.Named q) le few h = absurd h
    counted_is (suc n) zero (ref.Named q) le few h = absurd (omega (arith, le))
    counted_is (suc n) (suc k) (ref.Named q) le few h = by (is_own over.checked q) refl h (λ j t l w. counted_is n j t l (omega (arith, few)) w)
      where
        View : Bool → Option Desc
        View b = cond b (own_named over.checked.types q.object) (others q)

        Within : Option Desc → Type 0
        Within o = MatchOption o ⊥ (λ d. IsTrue (is_type d) × AllByRecursion (λ t. IsWithin seen n t) (stands_on d))

        Less : Type 0
        Less = (j : ℕ) (t : TypeRef) → n ≤ j → IsWithin seen n t → so_far j t ≡ count t

        parts : (j : ℕ) → n ≤ j → (d : Desc) → Less → AllByRecursion (λ t. IsWithin seen n t) (stands_on d) → AllByRecursion (λ t. so_far j t ≡ count t) (stands_on d)
        parts j l d r w = all_from (λ t. IsWithin seen n t) (λ t. so_far j t ≡ count t) (λ t w. r j t l w) (stands_on d) w

        own : is_own over.checked q ≡ true → (o : Option Desc) → own_named over.checked.types q.object ≡ o → Within o → Less → declared_procedures (so_far k) true o ≡ count (ref.Named q)
        own is None e w r = absurd w
        own is (Some d) e w r =
            let f = type_found over.checked.types q.object d e in
            let there = own_laid q f.t (bytes_true q.«module» over.checked.name is) f.there f.name ∙ ap (λ x. Some (laid_desc (words_in others over.checked) (procedures_in others over.checked) q x)) f.desc in
            let view : seen q ≡ Some d = ap (λ b. cond b (own_named over.checked.types q.object) (others q)) is ∙ e in
            own_count (so_far k) q d is view there (parts k (omega (arith, le)) d r w.1) (parts 200 (omega (arith, few)) d r w.1)

        other : (o : Option Desc) → others q ≡ o → Within o → Less → declared_procedures (so_far k) false o ≡ count (ref.Named q)
        other None e w r = absurd w
        other (Some d) e w r = let s = over.over.shown q d e w.0 in other_count (so_far k) q s.0 d s.1.0 s.1.1 (parts k (omega (arith, le)) d r w.1)

        by : (b : Bool) → is_own over.checked q ≡ b → Within (View b) → Less → declared_procedures (so_far k) b (View b) ≡ count (ref.Named q)
        by true is w r = own is (own_named over.checked.types q.object) refl w r
        by false is w r = other (others q) refl w r

    -- A RECORD OF THE MODULE
    base_counts : (q : QName) (r : RecordDesc) (w p : TypeRef → ℕ) → description program q ≡ Some (desc.Record (laid_record w p q r)) → AllByRecursion (λ t. p t ≡ count t) (listed r.base) → count_below program (base_of program q) ≡ laid_base p r.base
    base_counts q r w p e h =
        ap (λ x. count_below program (head (above (line_of x)))) (form_described program sound q (desc.Record (laid_record w p q r)) e)
        ∙ by r.base ∙ sym (count_base p r.base h)
      where
        by : (o : Option TypeRef) → count_below program (head (base_line (form_in program) o)) ≡ laid_base count o
        by None = refl
        by (Some t) = refl

    laid_numbers : (q : QName) (r : RecordDesc) → is_own over.checked q ≡ true → seen q ≡ Some (desc.Record r) → IsWithin seen 201 (ref.Named q) → description program q ≡ Some (desc.Record (laid_record (words_in others over.checked) (procedures_in others over.checked) q r)) → MethodsNumbered program q (laid_record (words_in others over.checked) (procedures_in others over.checked) q r)
    laid_numbers q r own view within e =
        let p = procedures_in others over.checked in
        let parts = all_front (λ t. IsWithin seen 200 t) (listed r.base) (each (λ x. x.of) r.fields) (parts_within seen 200 q (desc.Record r) view within) in
        let low = all_from (λ t. IsWithin seen 200 t) (λ t. so_far 200 t ≡ count t) (λ t w. counted_is 200 200 t (omega arith) (omega arith) w) (listed r.base) parts in
        let high = all_from (λ t. IsWithin seen 200 t) (λ t. p t ≡ count t) (λ t w. counted_is 200 201 t (omega arith) (omega arith) w) (listed r.base) parts in
        let n = laid_base p r.base in
        let base : count_below program (base_of program q) ≡ n = base_counts q r (words_in others over.checked) p e high in
        let all : p (ref.Named q) ≡ n + length r.methods =
        ap (λ b. declared_procedures (so_far 200) b (seen q)) own ∙ ap (declared_procedures (so_far 200) true) view ∙ ap (λ k. k + length r.methods) (count_base (so_far 200) r.base low ∙ sym (count_base p r.base high)) in
        record {
          rises = omega (arith, base, all);
          above = λ x k has. let h = (numbers_from x n r.methods k has).0 in omega (arith, base, h);
          below = λ x k has. let h = (numbers_from x n r.methods k has).1 in omega (arith, all, h);
          differ = λ x y k j h g same. numbers_apart x y n r.methods k j h g same;
        }

  abbrev Have : Program → Type 0
  Have ms = (q : QName) (s : RecordDesc) → description ms q ≡ Some (desc.Record s) → MethodsNumbered program q s

  -- one module more
  numbers_more : (before : Program) (m : Module) → IsOneOf program m → HasMore (description before) (description program) → Have before → IsLaidOver before m → Have (before ++ m ∷ [])
  numbers_more before m i more known over q s e =
      ⊎_elim
      (λ k. known q s k)
      (λ k.
      let c = over.checked in
      let types = over.over.others in
      let w = words_in types c in
      let p = procedures_in types c in
      let at_m : own_named m.types q.object ≡ Some (desc.Record s) = types_named m.types q.object ∙ k.1 in
      let f = laid_found types c c.types q.object (desc.Record s) (ap (λ ts. own_named ts q.object) (sym over.laid.types_are) ∙ at_m) in
      let unit : q.«module» ≡ c.name = k.0 ∙ over.laid.name in
      let named : (let n : QName = record { «module» = c.name; object = f.t.name } in n) ≡ q = ap (λ (y : List ℕ). let n : QName = record { «module» = y; object = f.t.name } in n) (sym unit) ∙ ap (λ (y : List ℕ). let n : QName = record { «module» = q.«module»; object = y } in n) f.name in
      let l = laid_of w p q f.t.desc s (ap (λ n. laid_desc w p n f.t.desc) (sym named) ∙ f.laid) in
      let there : description program q ≡ Some (desc.Record (laid_record w p q l.0)) = has_more program sound whole before m i more over q (desc.Record s) e ∙ ap (λ x. Some (desc.Record x)) (sym l.1.1) in
      let own : is_own c q ≡ true = ap (λ (y : List ℕ). bytes_eq y c.name) unit ∙ bytes_same c.name in
      let view : viewed types c q ≡ Some (desc.Record l.0) = ap (λ b. cond b (own_named c.types q.object) (types q)) own ∙ f.has ∙ ap (λ x. Some x) l.1.0 in
      let within : IsWithin (viewed types c) 201 (ref.Named q) = over.chains (ref.Named q) (subst (λ o. MatchOption o ⊥ (λ d. IsTrue (is_type d))) (sym view) refl) in
      subst (MethodsNumbered program q) l.1.1 (laid_numbers before m i more over q l.0 own view within there))
      (either_there before m over.over before q (desc.Record s) e)

  append_none : (ms : List Module) → ms ++ [] ≡ ms
  append_none [] = refl
  append_none (m ∷ ms) = ap (λ k. m ∷ k) (append_none ms)

  in_turn : (before : Program) (ms : List Module) → ((m : Module) → IsOneOf ms m → IsOneOf program m) → HasMore (description before) (description program) → Have before → AreLaidInOrder before ms → Have (before ++ ms)
  in_turn before [] i more known h = subst Have (sym (append_none before)) known
  in_turn before (m ∷ ms) i more known h =
      let here = i m (inl refl) in
      subst Have (append_assoc before (m ∷ []) ms)
      (in_turn (before ++ m ∷ []) ms (λ k j. i k (inr j)) (has_more program sound whole before m here more h.0) (numbers_more before m here more known h.0) h.1)

pub methods_are_numbered : MethodsAreNumbered
methods_are_numbered program sound whole h = in_turn program sound whole [] program (λ m i. i) (λ q d e. absurd cc) (λ q s e. absurd cc) h
