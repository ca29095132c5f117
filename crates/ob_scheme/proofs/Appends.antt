-- Code that is put one part after the other.
use Rattle.std.specs.Prelude.{Bool, true, false, if◌then◌else◌, ℤ, pos, slice_set}
use Rattle.std.proofs.Math.Seq.{set-append_seam}
use Rattle.ob_obj.specs.declared.parts.Link.{Link}
use Rattle.ob_obj.specs.declared.parts.StringConst.{StringConst}
use Rattle.ob_instr.specs.declared.opcode.Opcode.{Opcode}
use Rattle.ob_instr.specs.declared.opcode.Opcode.TheVariants as op
use Rattle.std.proofs.Common.{◌≡◌, ◌<◌, ℕ, suc, ◌+◌, List, [], ◌∷◌, ◌++◌, length, arith, length-append, append_assoc, append-nil, Option, Some, None, refl, sym, ap, ◌∙◌}
use Rattle.ob_tree.specs.declared.pos.Pos.{Pos}
use Rattle.ob_tree.specs.declared.names.QName.{QName}
use Rattle.ob_instr.specs.declared.instr.Instr.{Instr}
use Rattle.ob_instr.specs.declared.procedure.Position.{Position}
use Rattle.ob_scheme.specs.Lines.{Line, Number, OtherVariable, OtherProcedure, OtherType, StringHere, none, count, plain, line_of}
use Rattle.ob_scheme.specs.Numbers.{Named, instr, same_link, same_type, link_to, number_among, with_one, instr_in, with_line, instrs_in, with_lines, with_position, positions_at}
use Rattle.ob_scheme.specs.Coded.{Coded, appended, place_in, with_instr}

pub instrs_two : (n : Named) (a b : List Line) → instrs_in n (a ++ b) ≡ instrs_in n a ++ instrs_in (with_lines n a) b
instrs_two n [] b = refl
instrs_two n (l ∷ a) b = ap (λ r. instr_in n l ∷ r) (instrs_two (with_line n l) a b)

pub lines_two : (n : Named) (a b : List Line) → with_lines n (a ++ b) ≡ with_lines (with_lines n a) b
lines_two n [] b = refl
lines_two n (l ∷ a) b = lines_two (with_line n l) a b

position_two : (o : Option Pos) (pc : ℕ) (r s : List Position) → with_position o pc (r ++ s) ≡ with_position o pc r ++ s
position_two None pc r s = refl
position_two (Some at) pc r s = refl

pub positions_two : (pc : ℕ) (a b : List Line) → positions_at pc (a ++ b) ≡ positions_at pc a ++ positions_at (pc + length a) b
positions_two pc [] b = let e : pc ≡ pc + 0 = omega arith in ap (λ p. positions_at p b) e
positions_two pc (l ∷ a) b =
    let e : suc pc + length a ≡ pc + suc (length a) = omega arith in
    ap (with_position l.at pc) (positions_two (suc pc) a b ∙ ap (λ p. positions_at (suc pc) a ++ positions_at p b) e) ∙ position_two l.at pc (positions_at (suc pc) a) (positions_at (pc + suc (length a)) b)

pub instrs_length : (n : Named) (a : List Line) → length (instrs_in n a) ≡ length a
instrs_length n [] = refl
instrs_length n (l ∷ a) = let h = instrs_length (with_line n l) a in omega (arith, h)

abbrev pub coded : List Instr → List Position → Named → Coded
coded i p n = record { instrs = i; positions = p; named = n }

pub appended_length : (c : Coded) (a : List Line) → place_in (appended c a) ≡ place_in c + length a
unfolding appended
appended_length c a = let h = instrs_length c.named a in omega (arith, h, length-append c.instrs (instrs_in c.named a))

pub appended_two : (c : Coded) (a b : List Line) → appended (appended c a) b ≡ appended c (a ++ b)
unfolding appended
appended_two c a b =
    let i : (c.instrs ++ instrs_in c.named a) ++ instrs_in (with_lines c.named a) b ≡ c.instrs ++ instrs_in c.named (a ++ b) =
    append_assoc c.instrs (instrs_in c.named a) (instrs_in (with_lines c.named a) b) ∙ ap (λ l. c.instrs ++ l) (sym (instrs_two c.named a b)) in
    let len : length (c.instrs ++ instrs_in c.named a) ≡ length c.instrs + length a = let h = instrs_length c.named a in omega (arith, h, length-append c.instrs (instrs_in c.named a)) in
    let p : (c.positions ++ positions_at (length c.instrs) a) ++ positions_at (length (c.instrs ++ instrs_in c.named a)) b ≡ c.positions ++ positions_at (length c.instrs) (a ++ b) =
    append_assoc c.positions (positions_at (length c.instrs) a) _ ∙ ap (λ q. c.positions ++ (positions_at (length c.instrs) a ++ positions_at q b)) len ∙ ap (λ l. c.positions ++ l) (sym (positions_two (length c.instrs) a b)) in
    ap (λ x. coded x ((c.positions ++ positions_at (length c.instrs) a) ++ positions_at (length (c.instrs ++ instrs_in c.named a)) b) (with_lines (with_lines c.named a) b)) i
    ∙ ap (λ x. coded (c.instrs ++ instrs_in c.named (a ++ b)) x (with_lines (with_lines c.named a) b)) p
    ∙ ap (λ x. coded (c.instrs ++ instrs_in c.named (a ++ b)) (c.positions ++ positions_at (length c.instrs) (a ++ b)) x) (sym (lines_two c.named a b))

-- ---- what is put one after the other

pub put_two : (c0 c1 c2 : Coded) (a b : List Line) → c1 ≡ appended c0 a → c2 ≡ appended c1 b → c2 ≡ appended c0 (a ++ b)
put_two c0 c1 c2 a b h1 h2 = h2 ∙ ap (λ c. appended c b) h1 ∙ appended_two c0 a b

pub put_three : (c0 c1 c2 c3 : Coded) (a b d : List Line) → c1 ≡ appended c0 a → c2 ≡ appended c1 b → c3 ≡ appended c2 d → c3 ≡ appended c0 (a ++ (b ++ d))
put_three c0 c1 c2 c3 a b d h1 h2 h3 = put_two c0 c1 c3 a (b ++ d) h1 (put_two c1 c2 c3 b d h2 h3)

-- where the next line stands
pub next_place : (c0 c1 : Coded) (l : List Line) (end : ℕ) → c1 ≡ appended c0 l → end ≡ place_in c0 + length l → place_in c1 ≡ end
next_place c0 c1 l end h e = ap place_in h ∙ appended_length c0 l ∙ sym e

-- ---- one line

-- a link that is not there yet stands at the end; one that is there stays
pub new_one : {A : Type 0} (same : A → A → Bool) (l : List A) (x : A) → number_among same l x ≡ length l → with_one same l x ≡ l ++ x ∷ []
new_one same [] x e = refl
new_one same (y ∷ l) x e = go (same x y) e (λ h. new_one same l x h)
  where
    go : (b : Bool) → (if b then 0 else suc (number_among same l x)) ≡ suc (length l) → (number_among same l x ≡ length l → with_one same l x ≡ l ++ x ∷ []) → (if b then y ∷ l else y ∷ with_one same l x) ≡ y ∷ (l ++ x ∷ [])
    go true h rest = absurd (omega (arith, h))
    go false h rest = let k : number_among same l x ≡ length l = omega (arith, h) in ap (λ r. y ∷ r) (rest k)

pub old_one : {A : Type 0} (same : A → A → Bool) (l : List A) (x : A) → number_among same l x < length l → with_one same l x ≡ l
old_one same [] x lt = absurd (omega (arith, lt))
old_one same (y ∷ l) x lt = go (same x y) lt (λ h. old_one same l x h)
  where
    go : (b : Bool) → (if b then 0 else suc (number_among same l x)) < suc (length l) → (number_among same l x < length l → with_one same l x ≡ l) → (if b then y ∷ l else y ∷ with_one same l x) ≡ y ∷ l
    go true h rest = refl
    go false h rest = let k : number_among same l x < length l = omega (arith, h) in ap (λ r. y ∷ r) (rest k)

pub line_put : (i j : List Instr) (p q : List Position) (n : Named) (o : Opcode) (a b : ℤ) (at : Option Pos) → q ≡ p ++ with_position at (length i) [] → j ≡ i ++ instr o a b ∷ [] → coded j q n ≡ appended (coded i p n) (line_of o (Number a) (Number b) at ∷ [])
unfolding appended
line_put i j p q n o a b at h k = ap (λ x. coded x q n) k ∙ ap (λ x. coded (i ++ instr o a b ∷ []) x n) h

abbrev pub named_variables : Named → List Link → Named
named_variables n v = record n { variables = v }

pub variable_put : (i j : List Instr) (p : List Position) (n : Named) (v : List Link) (m x : List ℕ) (k : ℤ) → k ≡ pos (number_among same_link n.variables (link_to m x)) → v ≡ with_one same_link n.variables (link_to m x) → j ≡ i ++ instr op.ExtVar k (pos 0) ∷ [] → coded j p (named_variables n v) ≡ appended (coded i p n) (line_of op.ExtVar (OtherVariable m x) none None ∷ [])
unfolding appended
variable_put i j p n v m x k e f g =
    ap (λ w. coded j p (named_variables n w)) f
    ∙ ap (λ w. coded w p (named_variables n (with_one same_link n.variables (link_to m x)))) (g ∙ ap (λ w. i ++ instr op.ExtVar w (pos 0) ∷ []) e)
    ∙ ap (λ w. coded (i ++ instr op.ExtVar (pos (number_among same_link n.variables (link_to m x))) (pos 0) ∷ []) w (named_variables n (with_one same_link n.variables (link_to m x)))) (sym (append-nil p))

pub appended_none : (c : Coded) → c ≡ appended c []
unfolding appended
appended_none c = ap (λ i. coded i c.positions c.named) (sym (append-nil c.instrs)) ∙ ap (λ p. coded (c.instrs ++ []) p c.named) (sym (append-nil c.positions))

-- one line, and more behind it
pub put_more : (c0 c1 c2 : Coded) (x : Line) (b : List Line) → c1 ≡ appended c0 (x ∷ []) → c2 ≡ appended c1 b → c2 ≡ appended c0 (x ∷ b)
put_more c0 c1 c2 x b h k = put_two c0 c1 c2 (x ∷ []) b h k

-- ---- jumps whose targets are written at last

abbrev aim : Opcode → ℕ → Line
aim o t = plain o (count t)

instrs_aimed : (c : Coded) (a b : List Line) (o : Opcode) (s t n : ℕ) → n ≡ place_in c + length a → slice_set (c.instrs ++ instrs_in c.named (a ++ (aim o s ∷ b))) n (instr o (pos t) (pos 0)) ≡ c.instrs ++ instrs_in c.named (a ++ (aim o t ∷ b))
instrs_aimed c a b o s t n e =
    let x = instrs_in c.named a in
    let y = instrs_in (with_lines c.named a) b in
    let front = c.instrs ++ x in
    let is : n ≡ length front = let h = instrs_length c.named a in omega (arith, e, h, length-append c.instrs x) in
    let split : (k : ℕ) → c.instrs ++ instrs_in c.named (a ++ (aim o k ∷ b)) ≡ front ++ instr o (pos k) (pos 0) ∷ y = λ k. ap (λ l. c.instrs ++ l) (instrs_two c.named a (aim o k ∷ b)) ∙ sym (append_assoc c.instrs x (instr o (pos k) (pos 0) ∷ y)) in
    ap (λ l. slice_set l n (instr o (pos t) (pos 0))) (split s) ∙ ap (λ k. slice_set (front ++ instr o (pos s) (pos 0) ∷ y) k (instr o (pos t) (pos 0))) is ∙ set-append_seam front (instr o (pos s) (pos 0)) y (instr o (pos t) (pos 0)) ∙ sym (split t)

pub aimed_at : (c : Coded) (a b : List Line) (o : Opcode) (s t n : ℕ) → n ≡ place_in c + length a → with_instr (appended c (a ++ (aim o s ∷ b))) n (instr o (pos t) (pos 0)) ≡ appended c (a ++ (aim o t ∷ b))
unfolding appended with_instr
aimed_at c a b o s t n e =
    let pc = length c.instrs in
    let p : positions_at pc (a ++ (aim o s ∷ b)) ≡ positions_at pc (a ++ (aim o t ∷ b)) = positions_two pc a (aim o s ∷ b) ∙ sym (positions_two pc a (aim o t ∷ b)) in
    let n : with_lines c.named (a ++ (aim o s ∷ b)) ≡ with_lines c.named (a ++ (aim o t ∷ b)) = lines_two c.named a (aim o s ∷ b) ∙ sym (lines_two c.named a (aim o t ∷ b)) in
    ap (λ i. coded i (c.positions ++ positions_at pc (a ++ (aim o s ∷ b))) (with_lines c.named (a ++ (aim o s ∷ b)))) (instrs_aimed c a b o s t _ e)
    ∙ ap (λ q. coded (c.instrs ++ instrs_in c.named (a ++ (aim o t ∷ b))) (c.positions ++ q) (with_lines c.named (a ++ (aim o s ∷ b)))) p
    ∙ ap (λ m. coded (c.instrs ++ instrs_in c.named (a ++ (aim o t ∷ b))) (c.positions ++ positions_at pc (a ++ (aim o t ∷ b))) m) n

-- a part, a jump, and a part, and then the jump's target
pub put_aimed : (c0 c1 c2 c3 c4 : Coded) (a b : List Line) (o : Opcode) (s t n : ℕ) → c1 ≡ appended c0 a → n ≡ place_in c1 → c2 ≡ appended c1 (plain o (count s) ∷ []) → c3 ≡ appended c2 b → c4 ≡ with_instr c3 n (instr o (pos t) (pos 0)) → c4 ≡ appended c0 (a ++ (plain o (count t) ∷ b))
put_aimed c0 c1 c2 c3 c4 a b o s t n h e j k m =
    m ∙ ap (λ c. with_instr c n (instr o (pos t) (pos 0))) (put_two c0 c1 c3 a (aim o s ∷ b) h (put_two c1 c2 c3 (aim o s ∷ []) b j k))
    ∙ aimed_at c0 a b o s t n (e ∙ ap place_in h ∙ appended_length c0 a)

-- ---- lines that name something else

abbrev pub named_types : Named → List QName → Named
named_types n v = record n { types = v }

pub type_put : (i j : List Instr) (p q : List Position) (n : Named) (v : List QName) (o : Opcode) (own : ℕ) (x : QName) (b : ℤ) (at : Option Pos) (k : ℤ) → q ≡ p ++ with_position at (length i) [] → k ≡ pos (own + number_among same_type n.types x) → v ≡ with_one same_type n.types x → j ≡ i ++ instr o k b ∷ [] → coded j q (named_types n v) ≡ appended (coded i p n) (line_of o (OtherType own x) (Number b) at ∷ [])
unfolding appended
type_put i j p q n v o own x b at k h e f g =
    ap (λ w. coded j q (named_types n w)) f
    ∙ ap (λ w. coded w q (named_types n (with_one same_type n.types x))) (g ∙ ap (λ w. i ++ instr o w b ∷ []) e)
    ∙ ap (λ w. coded (i ++ instr o (pos (own + number_among same_type n.types x)) b ∷ []) w (named_types n (with_one same_type n.types x))) h

pub type_behind_put : (i j : List Instr) (p q : List Position) (n : Named) (v : List QName) (o : Opcode) (own : ℕ) (x : QName) (a : ℤ) (at : Option Pos) (k : ℤ) → q ≡ p ++ with_position at (length i) [] → k ≡ pos (own + number_among same_type n.types x) → v ≡ with_one same_type n.types x → j ≡ i ++ instr o a k ∷ [] → coded j q (named_types n v) ≡ appended (coded i p n) (line_of o (Number a) (OtherType own x) at ∷ [])
unfolding appended
type_behind_put i j p q n v o own x a at k h e f g =
    ap (λ w. coded j q (named_types n w)) f
    ∙ ap (λ w. coded w q (named_types n (with_one same_type n.types x))) (g ∙ ap (λ w. i ++ instr o a w ∷ []) e)
    ∙ ap (λ w. coded (i ++ instr o a (pos (own + number_among same_type n.types x)) ∷ []) w (named_types n (with_one same_type n.types x))) h

abbrev pub named_procedures : Named → List Link → Named
named_procedures n v = record n { procedures = v }

pub procedure_put : (i j : List Instr) (p q : List Position) (n : Named) (v : List Link) (o : Opcode) (m x : List ℕ) (at : Option Pos) (k : ℤ) → q ≡ p ++ with_position at (length i) [] → k ≡ pos (number_among same_link n.procedures (link_to m x)) → v ≡ with_one same_link n.procedures (link_to m x) → j ≡ i ++ instr o k (pos 0) ∷ [] → coded j q (named_procedures n v) ≡ appended (coded i p n) (line_of o (OtherProcedure m x) none at ∷ [])
unfolding appended
procedure_put i j p q n v o m x at k h e f g =
    ap (λ w. coded j q (named_procedures n w)) f
    ∙ ap (λ w. coded w q (named_procedures n (with_one same_link n.procedures (link_to m x)))) (g ∙ ap (λ w. i ++ instr o w (pos 0) ∷ []) e)
    ∙ ap (λ w. coded (i ++ instr o (pos (number_among same_link n.procedures (link_to m x))) (pos 0) ∷ []) w (named_procedures n (with_one same_link n.procedures (link_to m x)))) h

pub aim_put : (i : List Instr) (p : List Position) (n : Named) (o : Opcode) (k t : ℕ) (a : ℤ) → a ≡ pos t → t ≡ length i → coded (slice_set i k (instr o a (pos 0))) p n ≡ with_instr (coded i p n) k (instr o (pos (length i)) (pos 0))
unfolding with_instr
aim_put i p n o k t a e f = ap (λ z. coded (slice_set i k (instr o z (pos 0))) p n) (e ∙ ap pos f)

abbrev pub named_strings : Named → List StringConst → ℕ → Named
named_strings n v k = record n { strings = v; next = k }

pub string_put : (i j : List Instr) (p : List Position) (n : Named) (v : List StringConst) (text : List ℕ) (words next : ℕ) (k : ℤ) → k ≡ pos n.next → v ≡ n.strings ++ record { text = text; words = words } ∷ [] → next ≡ n.next + words → j ≡ i ++ instr op.Global k (pos 0) ∷ [] → coded j p (named_strings n v next) ≡ appended (coded i p n) (line_of op.Global (StringHere text words) none None ∷ [])
unfolding appended
string_put i j p n v text words next k e f h g =
    ap (λ w. coded j p (named_strings n w next)) f
    ∙ ap (λ w. coded j p (named_strings n (n.strings ++ record { text = text; words = words } ∷ []) w)) h
    ∙ ap (λ w. coded w p (named_strings n (n.strings ++ record { text = text; words = words } ∷ []) (n.next + words))) (g ∙ ap (λ w. i ++ instr op.Global w (pos 0) ∷ []) e)
    ∙ ap (λ w. coded (i ++ instr op.Global (pos n.next) (pos 0) ∷ []) w (named_strings n (n.strings ++ record { text = text; words = words } ∷ []) (n.next + words))) (sym (append-nil p))
