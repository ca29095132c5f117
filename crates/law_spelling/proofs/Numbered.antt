-- What lines that have a spelling come to: instructions, positions, strings and links that have one.
use Rattle.std.proofs.Common.{◌≡◌, ℕ, suc, ◌+◌, ◌<◌, ◌≤◌, ◌^◌, Bool, true, false, List, [], ◌∷◌, ◌++◌, length, Option, Some, None, refl, sym, ap, subst, ◌∙◌, arith}
use Rattle.std.specs.Prelude.{pos, if◌then◌else◌, ◌&&◌, is_some, IfSome, FitsSigned}
use Rattle.std.specs.Int.{w32}
use Rattle.std.specs.List.{AllByRecursion}
use Rattle.ob_tree.specs.declared.pos.Pos.{Pos}
use Rattle.ob_tree.specs.declared.names.QName.{QName}
use Rattle.ob_format.specs.Format.{int, text32, word32}
use Rattle.ob_format.specs.Names.{name, object_name, qname}
use Rattle.ob_instr.specs.declared.procedure.Position.{Position}
use Rattle.ob_instr.specs.Spelling.{instr, opcode}
use Rattle.ob_instr.specs.Parts.{position}
use Rattle.ob_obj.specs.declared.parts.StringConst.{StringConst}
use Rattle.ob_obj.specs.declared.parts.Link.{Link}
use Rattle.ob_obj.specs.Grammar.{string, link, has_position, first_at, behind, are_placed, words_of}
use Rattle.ob_scheme.specs.Lines.{Operand, Number, StringHere, OtherVariable, OtherProcedure, OtherType, Line}
use Rattle.ob_scheme.specs.Numbers.{Named, same_link, same_type, number_among, with_one, link_to, number_in, with_operand, instr_in, with_line, instrs_in, with_lines, with_position, positions_at}
use Rattle.law_spelling.specs.Coded.{PosFits}
use Rattle.law_spelling.specs.Lines.{OperandFits, LineFits, LinesFit}
use Rattle.law_spelling.proofs.Lines.{word_fits}
use Rattle.law_lists.proofs.Lists.{all_both, nat_itself}

-- ---- what is named only grows

pub among_few : {A : Type 0} (same : A → A → Bool) (ys : List A) (x : A) → number_among same ys x ≤ length ys
among_few same [] x = omega arith
among_few same (y ∷ ys) x = go (same x y) (among_few same ys x)
  where
    go : (b : Bool) → number_among same ys x ≤ length ys → (if b then 0 else suc (number_among same ys x)) ≤ suc (length ys)
    go true h = omega arith
    go false h = omega (arith, h)

pub with_one_more : {A : Type 0} (same : A → A → Bool) (ys : List A) (x : A) → length ys ≤ length (with_one same ys x)
with_one_more same [] x = omega arith
with_one_more same (y ∷ ys) x = go (same x y) (with_one_more same ys x)
  where
    go : (b : Bool) → length ys ≤ length (with_one same ys x) → suc (length ys) ≤ length (if b then y ∷ ys else y ∷ with_one same ys x)
    go true h = omega arith
    go false h = omega (arith, h)

pub with_one_all : {A : Type 0} (same : A → A → Bool) (P : A → Type 0) (ys : List A) (x : A) → AllByRecursion P ys → P x → AllByRecursion P (with_one same ys x)
with_one_all same P [] x h k = (k, tt)
with_one_all same P (y ∷ ys) x h k = go (same x y) (with_one_all same P ys x h.1 k)
  where
    go : (b : Bool) → AllByRecursion P (with_one same ys x) → AllByRecursion P (if b then y ∷ ys else y ∷ with_one same ys x)
    go true r = (h.0, h.1)
    go false r = (h.0, r)

pub record IsBelow (n m : Named) : Type 0 where
  pub next : n.next ≤ m.next
  pub variables : length n.variables ≤ length m.variables
  pub procedures : length n.procedures ≤ length m.procedures
  pub types : length n.types ≤ length m.types

itself : (n : Named) → IsBelow n n
itself n = record { next = omega arith; variables = omega arith; procedures = omega arith; types = omega arith }

then_below : (a b c : Named) → IsBelow a b → IsBelow b c → IsBelow a c
then_below a b c h k =
    let h0 = h.next in let k0 = k.next in let h1 = h.variables in let k1 = k.variables in let h2 = h.procedures in let k2 = k.procedures in let h3 = h.types in let k3 = k.types in
    record { next = omega (arith, h0, k0); variables = omega (arith, h1, k1); procedures = omega (arith, h2, k2); types = omega (arith, h3, k3) }

operand_below : (n : Named) (o : Operand) → IsBelow n (with_operand n o)
operand_below n (Number z) = itself n
operand_below n (StringHere text words) = record { next = omega arith; variables = omega arith; procedures = omega arith; types = omega arith }
operand_below n (OtherVariable m x) = record { next = omega arith; variables = with_one_more same_link n.variables (link_to m x); procedures = omega arith; types = omega arith }
operand_below n (OtherProcedure m x) = record { next = omega arith; variables = omega arith; procedures = with_one_more same_link n.procedures (link_to m x); types = omega arith }
operand_below n (OtherType own q) = record { next = omega arith; variables = omega arith; procedures = omega arith; types = with_one_more same_type n.types q }

line_below : (n : Named) (l : Line) → IsBelow n (with_line n l)
line_below n l = then_below n (with_operand n l.a) (with_line n l) (operand_below n l.a) (operand_below (with_operand n l.a) l.b)

lines_below : (n : Named) (ls : List Line) → IsBelow n (with_lines n ls)
lines_below n [] = itself n
lines_below n (l ∷ ls) = then_below n (with_line n l) (with_lines (with_line n l) ls) (line_below n l) (lines_below (with_line n l) ls)

-- ---- instructions

-- numbers of links and strings are words
pub record IsFew (n : Named) : Type 0 where
  pub next : n.next < 2 ^ 31
  pub variables : length n.variables ≤ 2 ^ 24
  pub procedures : length n.procedures ≤ 2 ^ 24
  pub types : length n.types ≤ 2 ^ 24

few_below : (n m : Named) → IsBelow n m → IsFew m → IsFew n
few_below n m h k =
    let h0 = h.next in let k0 = k.next in let h1 = h.variables in let k1 = k.variables in let h2 = h.procedures in let k2 = k.procedures in let h3 = h.types in let k3 = k.types in
    record { next = omega (arith, h0, k0); variables = omega (arith, h1, k1); procedures = omega (arith, h2, k2); types = omega (arith, h3, k3) }

number_fits : (n : Named) (o : Operand) → IsFew n → OperandFits o → FitsSigned w32 (number_in n o)
number_fits n (Number z) f h = h
number_fits n (StringHere text words) f h = word_fits n.next f.next
number_fits n (OtherVariable m x) f h = let a = among_few same_link n.variables (link_to m x) in let b = f.variables in word_fits _ (omega (arith, a, b))
number_fits n (OtherProcedure m x) f h = let a = among_few same_link n.procedures (link_to m x) in let b = f.procedures in word_fits _ (omega (arith, a, b))
number_fits n (OtherType own q) f h = let a = among_few same_type n.types q in let b = f.types in let c = h.0 in word_fits _ (omega (arith, a, b, c))

instr_fits : (n : Named) (pc : ℕ) (l : Line) → IsFew n → LineFits pc l → instr.fits (instr_in n l)
unfolding instr opcode int
instr_fits n pc l f h = ((tt, (number_fits n l.a f h.a, number_fits n l.b f h.b)), (λ i. ap (number_in n) (h.no_a i), λ i. ap (number_in n) (h.no_b i)))

pub instrs_fit : (n : Named) (pc : ℕ) (ls : List Line) → IsFew (with_lines n ls) → LinesFit pc ls → AllByRecursion instr.fits (instrs_in n ls)
instrs_fit n pc [] f h = tt
instrs_fit n pc (l ∷ ls) f h = (instr_fits n pc l (few_below n (with_lines n (l ∷ ls)) (lines_below n (l ∷ ls)) f) h.0, instrs_fit (with_line n l) (suc pc) ls f h.1)

pub instrs_many : (n : Named) (ls : List Line) → length (instrs_in n ls) ≡ length ls
instrs_many n [] = refl
instrs_many n (l ∷ ls) = let e = instrs_many (with_line n l) ls in omega (arith, e)

-- ---- positions

one_position : (o : Option Pos) (pc : ℕ) (ps : List Position) → pc < 2 ^ 32 → IfSome o PosFits → AllByRecursion position.fits ps → AllByRecursion position.fits (with_position o pc ps)
unfolding position word32
one_position None pc ps l h k = k
one_position (Some at) pc ps l h k = ((l, (h.0, h.1)), k)

pub positions_fit : (pc : ℕ) (ls : List Line) → pc + length ls < 2 ^ 32 → LinesFit pc ls → AllByRecursion position.fits (positions_at pc ls)
positions_fit pc [] l h = tt
positions_fit pc (x ∷ ls) l h = one_position x.at pc (positions_at (suc pc) ls) (omega (arith, l)) h.0.at (positions_fit (suc pc) ls (omega (arith, l)) h.1)

one_many : (o : Option Pos) (pc : ℕ) (ps : List Position) → length (with_position o pc ps) ≤ suc (length ps)
one_many None pc ps = omega arith
one_many (Some at) pc ps = omega arith

pub positions_many : (pc : ℕ) (ls : List Line) → length (positions_at pc ls) ≤ length ls
positions_many pc [] = omega arith
positions_many pc (l ∷ ls) = let a = one_many l.at pc (positions_at (suc pc) ls) in let b = positions_many (suc pc) ls in omega (arith, a, b)

pub are_there : (n : Named) (pc : ℕ) (ls : List Line) → LinesFit pc ls → are_placed pc (instrs_in n ls) (positions_at pc ls) ≡ true
are_there n pc [] h = refl
are_there n pc (l ∷ ls) h =
    let more : are_placed (pc + 1) (instrs_in (with_line n l) ls) (positions_at (suc pc) ls) ≡ true =
    let same : suc pc ≡ pc + 1 = omega arith in
    ap (λ k. are_placed k (instrs_in (with_line n l) ls) (positions_at (suc pc) ls)) (sym same) ∙ are_there (with_line n l) (suc pc) ls h.1 in
    go l.at (h.0.placed n) more
  where
    go : (o : Option Pos) → has_position pc (instr_in n l) ≡ is_some o → are_placed (pc + 1) (instrs_in (with_line n l) ls) (positions_at (suc pc) ls) ≡ true → are_placed pc (instr_in n l ∷ instrs_in (with_line n l) ls) (with_position o pc (positions_at (suc pc) ls)) ≡ true
    go None e m =
        let ps : List Position = positions_at (suc pc) ls in
        ap (λ b. if b then first_at pc ps && are_placed (pc + 1) (instrs_in (with_line n l) ls) (behind ps) else are_placed (pc + 1) (instrs_in (with_line n l) ls) ps) e ∙ m
    go (Some at) e m =
        let rest : List Position = positions_at (suc pc) ls in
        let ps : List Position = record { at = pc; pos = at } ∷ rest in
        ap (λ b. if b then first_at pc ps && are_placed (pc + 1) (instrs_in (with_line n l) ls) (behind ps) else are_placed (pc + 1) (instrs_in (with_line n l) ls) ps) e
        ∙ ap (λ b. b && are_placed (pc + 1) (instrs_in (with_line n l) ls) rest) (nat_itself pc) ∙ m

-- ---- strings and links

abbrev pub StringIsLong : StringConst → Type 0
StringIsLong s = length s.text < s.words

abbrev pub LinkIsNamed : Link → Type 0
LinkIsNamed l = name.fits l.«module» × name.fits l.name

abbrev pub TypeIsNamed : QName → Type 0
TypeIsNamed q = name.fits q.«module» × object_name.fits q.object

pub record AreNamed (n : Named) : Type 0 where
  pub strings : AllByRecursion StringIsLong n.strings
  pub variables : AllByRecursion LinkIsNamed n.variables
  pub procedures : AllByRecursion LinkIsNamed n.procedures
  pub types : AllByRecursion TypeIsNamed n.types

operand_named : (n : Named) (o : Operand) → AreNamed n → OperandFits o → AreNamed (with_operand n o)
operand_named n (Number z) a h = a
operand_named n (StringHere text words) a h = record { strings = all_both StringIsLong n.strings (record { text = text; words = words } ∷ []) a.strings (h, tt); variables = a.variables; procedures = a.procedures; types = a.types }
operand_named n (OtherVariable m x) a h = record { strings = a.strings; variables = with_one_all same_link LinkIsNamed n.variables (link_to m x) a.variables h; procedures = a.procedures; types = a.types }
operand_named n (OtherProcedure m x) a h = record { strings = a.strings; variables = a.variables; procedures = with_one_all same_link LinkIsNamed n.procedures (link_to m x) a.procedures h; types = a.types }
operand_named n (OtherType own q) a h = record { strings = a.strings; variables = a.variables; procedures = a.procedures; types = with_one_all same_type TypeIsNamed n.types q a.types h.1 }

pub lines_named : (n : Named) (pc : ℕ) (ls : List Line) → AreNamed n → LinesFit pc ls → AreNamed (with_lines n ls)
lines_named n pc [] a h = a
lines_named n pc (l ∷ ls) a h = lines_named (with_line n l) (suc pc) ls (operand_named (with_operand n l.a) l.b (operand_named n l.a a h.0.a) h.0.b) h.1

-- strings that are in no more words than so many
strings_fit_in : (k : ℕ) → k < 2 ^ 32 → (ss : List StringConst) → AllByRecursion StringIsLong ss → words_of ss ≤ k → AllByRecursion string.fits ss
unfolding string text32 word32
strings_fit_in k l [] h e = tt
strings_fit_in k l (s ∷ ss) h e =
    let a = h.0 in
    (((omega (arith, a, e, l), omega (arith, e, l)), a), strings_fit_in k l ss h.1 (omega (arith, e)))

pub strings_fit : (ss : List StringConst) → AllByRecursion StringIsLong ss → words_of ss ≤ 262144 → AllByRecursion string.fits ss
strings_fit ss h e = strings_fit_in 262144 (omega arith) ss h e

pub few_strings : (ss : List StringConst) → AllByRecursion StringIsLong ss → length ss ≤ words_of ss
few_strings [] h = omega arith
few_strings (s ∷ ss) h = let a = h.0 in let b = few_strings ss h.1 in omega (arith, a, b)

pub links_fit : (ls : List Link) → AllByRecursion LinkIsNamed ls → AllByRecursion link.fits ls
unfolding link
links_fit [] h = tt
links_fit (l ∷ ls) h = (h.0, links_fit ls h.1)

pub types_fit : (qs : List QName) → AllByRecursion TypeIsNamed qs → AllByRecursion qname.fits qs
unfolding qname
types_fit [] h = tt
types_fit (q ∷ qs) h = (h.0, types_fit qs h.1)

-- ---- how much is named

words_both : (a : List StringConst) (s : StringConst) → words_of (a ++ s ∷ []) ≡ words_of a + s.words
words_both [] s = omega arith
words_both (x ∷ a) s = let e = words_both a s in omega (arith, e)

operand_next : (n : Named) (o : Operand) → (with_operand n o).next + words_of n.strings ≡ n.next + words_of (with_operand n o).strings
operand_next n (Number z) = omega arith
operand_next n (StringHere text words) = let e = words_both n.strings (record { text = text; words = words }) in omega (arith, e)
operand_next n (OtherVariable m x) = omega arith
operand_next n (OtherProcedure m x) = omega arith
operand_next n (OtherType own q) = omega arith

-- the next string goes behind those before it
pub lines_next : (n : Named) (ls : List Line) → (with_lines n ls).next + words_of n.strings ≡ n.next + words_of (with_lines n ls).strings
lines_next n [] = omega arith
lines_next n (l ∷ ls) =
    let a = operand_next n l.a in
    let b = operand_next (with_operand n l.a) l.b in
    let c = lines_next (with_line n l) ls in
    omega (arith, a, b, c)

pub one_few : {A : Type 0} (same : A → A → Bool) (ys : List A) (x : A) → length (with_one same ys x) ≤ suc (length ys)
one_few same [] x = omega arith
one_few same (y ∷ ys) x = go (same x y) (one_few same ys x)
  where
    go : (b : Bool) → length (with_one same ys x) ≤ suc (length ys) → length (if b then y ∷ ys else y ∷ with_one same ys x) ≤ suc (suc (length ys))
    go true h = omega arith
    go false h = omega (arith, h)

-- no more links than so many
pub record HasUpTo (k : ℕ) (n : Named) : Type 0 where
  pub variables : length n.variables ≤ k
  pub procedures : length n.procedures ≤ k
  pub types : length n.types ≤ k

operand_up_to : (k : ℕ) (n : Named) (o : Operand) → HasUpTo k n → HasUpTo (suc k) (with_operand n o)
operand_up_to k n o h = go o
  where
    a : length n.variables ≤ k
    a = h.variables

    b : length n.procedures ≤ k
    b = h.procedures

    c : length n.types ≤ k
    c = h.types

    go : (o : Operand) → HasUpTo (suc k) (with_operand n o)
    go (Number z) = record { variables = omega (arith, a); procedures = omega (arith, b); types = omega (arith, c) }
    go (StringHere text words) = record { variables = omega (arith, a); procedures = omega (arith, b); types = omega (arith, c) }
    go (OtherVariable m x) = let e = one_few same_link n.variables (link_to m x) in record { variables = omega (arith, a, e); procedures = omega (arith, b); types = omega (arith, c) }
    go (OtherProcedure m x) = let e = one_few same_link n.procedures (link_to m x) in record { variables = omega (arith, a); procedures = omega (arith, b, e); types = omega (arith, c) }
    go (OtherType own q) = let e = one_few same_type n.types q in record { variables = omega (arith, a); procedures = omega (arith, b); types = omega (arith, c, e) }

pub lines_up_to : (k : ℕ) (n : Named) (ls : List Line) → HasUpTo k n → HasUpTo (k + (length ls + length ls)) (with_lines n ls)
lines_up_to k n [] h = let same : k ≡ k + (0 + 0) = omega arith in subst (λ j. HasUpTo j n) same h
lines_up_to k n (l ∷ ls) h =
    let same : suc (suc k) + (length ls + length ls) ≡ k + (suc (length ls) + suc (length ls)) = omega arith in
    subst (λ j. HasUpTo j (with_lines (with_line n l) ls)) same
    (lines_up_to (suc (suc k)) (with_line n l) ls (operand_up_to (suc k) (with_operand n l.a) l.b (operand_up_to k n l.a h)))
