-- Lines as they are numbered stand in the code.
use Rattle.std.proofs.Common.{◌≡◌, ℕ, suc, ◌+◌, ◌<◌, List, [], ◌∷◌, ◌++◌, length, refl, sym, ap, ◌∙◌, subst, arith, Option, Some, None, ⊎_elim}
use Rattle.std.specs.Prelude.{unwrap_or, pos, zero, ◌⊎◌, Bool, true, false, nat_eq, bytes_eq, if◌then◌else◌, slice_get}
use Rattle.std.proofs.lemmas.Bool.Decides.{nat_tests}
use Rattle.std.proofs.lemmas.Option.{none-some}
use Rattle.ob_tree.specs.declared.pos.Pos.{Pos}
use Rattle.ob_tree.specs.declared.names.QName.{QName}
use Rattle.ob_instr.specs.declared.instr.Instr.{Instr}
use Rattle.ob_instr.specs.Table.{position_at}
use Rattle.ob_obj.specs.declared.parts.Link.{Link}
use Rattle.ob_scheme.specs.Lines.{Operand, Number, StringHere, OtherVariable, OtherProcedure, OtherType, Line, behind}
use Rattle.ob_scheme.specs.Numbers.{Named, same_link, same_type, link_to, number_among, with_one, number_in, with_operand, instr_in, with_line, instrs_in, with_lines, with_position, positions_at}
use Rattle.law_simulation_relation.specs.Stands.{Scope}
use Rattle.law_simulation_relation.proofs.Names.{bytes_true}
use Rattle.law_image_code.specs.Standing.{past, StringIs, StringsStand, IsNumber, OperandIs, PositionIs, LineStands, LinesStand}
use Rattle.law_image_code.specs.Resolved.{LinksResolve}
use Rattle.law_lists.proofs.Lists.{and_parts}

-- NUMBERS IN LISTS

-- the one that is sought stands at its number
one_found : {A : Type 0} (same : A → A → Bool) → ((a b : A) → same a b ≡ true → a ≡ b) → (l : List A) (x : A) → slice_get (with_one same l x) (number_among same l x) ≡ Some x
one_found same is [] x = refl
one_found same is (y ∷ l) x = go (same x y) refl (one_found same is l x)
  where
    go : (b : Bool) → same x y ≡ b → slice_get (with_one same l x) (number_among same l x) ≡ Some x → slice_get (if b then y ∷ l else y ∷ with_one same l x) (if b then 0 else suc (number_among same l x)) ≡ Some x
    go true e more = ap (λ z. Some z) (sym (is x y e))
    go false e more = more

-- and what stood before stays
one_kept : {A : Type 0} (same : A → A → Bool) (l : List A) (x : A) (k : ℕ) (y : A) → slice_get l k ≡ Some y → slice_get (with_one same l x) k ≡ Some y
one_kept same (z ∷ l) x zero y e = go (same x z)
  where
    go : (b : Bool) → slice_get (if b then z ∷ l else z ∷ with_one same l x) 0 ≡ Some y
    go true = e
    go false = e
one_kept same (z ∷ l) x (suc k) y e = go (same x z) (one_kept same l x k y e)
  where
    go : (b : Bool) → slice_get (with_one same l x) k ≡ Some y → slice_get (if b then z ∷ l else z ∷ with_one same l x) (suc k) ≡ Some y
    go true more = e
    go false more = more
one_kept same [] x k y e = absurd (none-some _ e)

link_is : (a b : Link) → same_link a b ≡ true → a ≡ b
link_is a b e =
    let h = and_parts (bytes_eq a.name b.name) (bytes_eq a.«module» b.«module») e in
    ap (λ z. link_to z a.name) (bytes_true a.«module» b.«module» h.1) ∙ ap (λ z. link_to b.«module» z) (bytes_true a.name b.name h.0)

type_is : (a b : QName) → same_type a b ≡ true → a ≡ b
type_is a b e =
    let h = and_parts (bytes_eq a.object b.object) (bytes_eq a.«module» b.«module») e in
    ap (λ z. name z a.object) (bytes_true a.«module» b.«module» h.1) ∙ ap (λ z. name b.«module» z) (bytes_true a.object b.object h.0)
  where
    name : List ℕ → List ℕ → QName
    name m x = record { «module» = m; object = x }

-- MORE IS NAMED

pub record Kept (n m : Named) : Type 0 where
  pub variables : (k : ℕ) (l : Link) → slice_get n.variables k ≡ Some l → slice_get m.variables k ≡ Some l
  pub procedures : (k : ℕ) (l : Link) → slice_get n.procedures k ≡ Some l → slice_get m.procedures k ≡ Some l
  pub types : (k : ℕ) (q : QName) → slice_get n.types k ≡ Some q → slice_get m.types k ≡ Some q

pub kept_all : (n : Named) → Kept n n
kept_all n = record { variables = λ k l e. e; procedures = λ k l e. e; types = λ k l e. e }

kept_on : (n m o : Named) → Kept n m → Kept m o → Kept n o
kept_on n m o a b = record { variables = λ k l e. b.variables k l (a.variables k l e); procedures = λ k l e. b.procedures k l (a.procedures k l e); types = λ k l e. b.types k l (a.types k l e) }

operand_kept : (n : Named) (o : Operand) → Kept n (with_operand n o)
operand_kept n (Number z) = kept_all n
operand_kept n (StringHere text words) = record { variables = λ k l e. e; procedures = λ k l e. e; types = λ k l e. e }
operand_kept n (OtherVariable m x) = record { variables = λ k l e. one_kept same_link n.variables (link_to m x) k l e; procedures = λ k l e. e; types = λ k l e. e }
operand_kept n (OtherProcedure m x) = record { variables = λ k l e. e; procedures = λ k l e. one_kept same_link n.procedures (link_to m x) k l e; types = λ k l e. e }
operand_kept n (OtherType own q) = record { variables = λ k l e. e; procedures = λ k l e. e; types = λ k l e. one_kept same_type n.types q k l e }

line_kept : (n : Named) (l : Line) → Kept n (with_line n l)
line_kept n l = kept_on n (with_operand n l.a) (with_line n l) (operand_kept n l.a) (operand_kept (with_operand n l.a) l.b)

lines_kept : (n : Named) (ls : List Line) → Kept n (with_lines n ls)
lines_kept n [] = kept_all n
lines_kept n (l ∷ ls) = kept_on n (with_line n l) (with_lines (with_line n l) ls) (line_kept n l) (lines_kept (with_line n l) ls)

next_past : (n : Named) (o : Operand) (at : ℕ) → n.next ≡ at → (with_operand n o).next ≡ past o at
next_past n (Number z) at e = e
next_past n (StringHere text words) at e = ap (λ k. k + words) e
next_past n (OtherVariable m x) at e = e
next_past n (OtherProcedure m x) at e = e
next_past n (OtherType own q) at e = e

-- POSITIONS

pub position_found : (ls : List Line) (k i : ℕ) (l : Line) (p : Pos) → slice_get ls i ≡ Some l → l.at ≡ Some p → position_at (positions_at k ls) (k + i) ≡ p
position_found [] k i l p e f = absurd (none-some _ e)
position_found (x ∷ ls) k zero l p e f =
    let g : x.at ≡ Some p = ap (λ z. z.at) (ap (λ o. unwrap_or o x) e) ∙ f in
    let h : nat_eq (k + 0) k ≡ true = grind (arith, nat_tests) in
    ap (λ o. position_at (with_position o k (positions_at (suc k) ls)) (k + 0)) g ∙ ap (λ b. if b then p else position_at (positions_at (suc k) ls) (k + 0)) h
position_found (x ∷ ls) k (suc i) l p e f =
    let s : suc k + i ≡ k + suc i = omega arith in
    go x.at (subst (λ n. position_at (positions_at (suc k) ls) n ≡ p) s (position_found ls (suc k) i l p e f))
  where
    go : (o : Option Pos) → position_at (positions_at (suc k) ls) (k + suc i) ≡ p → position_at (with_position o k (positions_at (suc k) ls)) (k + suc i) ≡ p
    go None h = h
    go (Some q) h = let g : nat_eq (k + suc i) k ≡ false = grind (arith, nat_tests) in ap (λ b. if b then q else position_at (positions_at (suc k) ls) (k + suc i)) g ∙ h

module _ (sc : Scope) where
  -- LINES, each of which stands

  abbrev pub AllStand : List Line → ℕ → ℕ → Type 0
  AllStand [] pc at = Unit {0}
  AllStand (l ∷ ls) pc at = LineStands sc l pc at × AllStand ls (suc pc) (past l.b (past l.a at))

  abbrev CodeAt : List Instr → ℕ → Type 0
  CodeAt is pc = (i : ℕ) (x : Instr) → slice_get is i ≡ Some x → slice_get sc.u.code (pc + i) ≡ Some x

  abbrev PlacesAt : List Line → ℕ → Type 0
  PlacesAt ls pc = (i : ℕ) (l : Line) (p : Pos) → slice_get ls i ≡ Some l → l.at ≡ Some p → position_at sc.u.positions (pc + i) ≡ p

  module _ (m : Named) (resolved : LinksResolve sc m) where
    operand_is : (n : Named) (o : Operand) (at : ℕ) → n.next ≡ at → Kept (with_operand n o) m → StringIs sc.program sc.unit o at → OperandIs sc o at (number_in n o)
    operand_is n (Number z) at e k s = refl
    operand_is n (StringHere text words) at e k s = (ap (λ x. pos x) e, record { before = s.before; behind = s.behind; is = s.is; offset = s.offset })
    operand_is n (OtherVariable u x) at e k s = (number_among same_link n.variables (link_to u x), refl, resolved.variables _ (link_to u x) (k.variables _ _ (one_found same_link link_is n.variables (link_to u x))))
    operand_is n (OtherProcedure u x) at e k s = (number_among same_link n.procedures (link_to u x), refl, resolved.procedures _ (link_to u x) (k.procedures _ _ (one_found same_link link_is n.procedures (link_to u x))))
    operand_is n (OtherType own q) at e k s =
        let j = number_among same_type n.types q in
        (own + j, refl, λ f. ap (λ o. slice_get sc.u.types (o + j)) f ∙ resolved.types j q (k.types _ _ (one_found same_type type_is n.types q)))

    -- one operand of a line, where the other is a number
    first_is : (n : Named) (a b : Operand) (at : ℕ) → n.next ≡ at → Kept (with_operand (with_operand n a) b) m → StringIs sc.program sc.unit a at → IsNumber a ⊎ IsNumber b → OperandIs sc a at (number_in n a)
    first_is n (Number z) b at e k s i = refl
    first_is n a (Number z) at e k s i = operand_is n a at e k s
    first_is n a b at e k s i = ⊎_elim (λ x. absurd x) (λ x. absurd x) i

    second_is : (n : Named) (a b : Operand) (at : ℕ) → n.next ≡ at → Kept (with_operand (with_operand n a) b) m → StringIs sc.program sc.unit b (past a at) → IsNumber a ⊎ IsNumber b → OperandIs sc b at (number_in n b)
    second_is n (Number z) b at e k s i = operand_is n b at e k s
    second_is n a (Number z) at e k s i = refl
    second_is n a b at e k s i = ⊎_elim (λ x. absurd x) (λ x. absurd x) i

    position_is : (o : Option Pos) (l : Line) (ls : List Line) (pc : ℕ) → l.at ≡ o → PlacesAt (l ∷ ls) pc → PositionIs sc o pc
    position_is None l ls pc e h = tt
    position_is (Some p) l ls pc e h = let z : pc + 0 ≡ pc = omega arith in subst (λ k. position_at sc.u.positions k ≡ p) z (h 0 l p refl e)

    pub all_stand : (ls : List Line) (n : Named) (pc at : ℕ) → n.next ≡ at → Kept (with_lines n ls) m → StringsStand sc.program sc.unit ls at → CodeAt (instrs_in n ls) pc → PlacesAt ls pc → AllStand ls pc at
    all_stand [] n pc at e k texts code places = tt
    all_stand (l ∷ ls) n pc at e k texts code places =
        let here = kept_on (with_line n l) (with_lines (with_line n l) ls) m (lines_kept (with_line n l) ls) k in
        let z : pc + 0 ≡ pc = omega arith in (
          record {
            a = number_in n l.a;
            b = number_in n l.b;
            is = subst (λ i. slice_get sc.u.code i ≡ Some (instr_in n l)) z (code 0 (instr_in n l) refl);
            first = first_is n l.a l.b at e here texts.0;
            second = second_is n l.a l.b at e here texts.1.0;
            place = position_is l.at l ls pc refl places;
          },
          all_stand ls (with_line n l) (suc pc) _ (next_past (with_operand n l.a) l.b _ (next_past n l.a at e)) k texts.1.1
              (λ i x f. let s : pc + suc i ≡ suc pc + i = omega arith in subst (λ j. slice_get sc.u.code j ≡ Some x) s (code (suc i) x f))
              (λ i x p f g. let s : pc + suc i ≡ suc pc + i = omega arith in subst (λ j. position_at sc.u.positions j ≡ p) s (places (suc i) x p f g)),
        )

  -- the strings laid down by lines
  abbrev pub texts_past : List Line → ℕ → ℕ
  texts_past [] at = at
  texts_past (l ∷ ls) at = texts_past ls (past l.b (past l.a at))

  pub stand_apart : (a b : List Line) (pc at : ℕ) → AllStand (a ++ b) pc at → AllStand a pc at × AllStand b (behind a pc) (texts_past a at)
  stand_apart [] b pc at h = (tt, h)
  stand_apart (l ∷ a) b pc at h = let r = stand_apart a b (suc pc) _ h.1 in ((h.0, r.0), r.1)

  pub with_end : (a : List Line) (pc at : ℕ) → AllStand a pc at → behind a pc < length sc.u.code → LinesStand sc a pc at
  with_end [] pc at h i = i
  with_end (l ∷ a) pc at h i = (h.0, with_end a (suc pc) _ h.1 i)
