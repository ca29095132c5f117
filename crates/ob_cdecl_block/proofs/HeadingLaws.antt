-- Headings in turn, and what is known behind each.
use Rattle.std.proofs.Common.{◌≡◌, ℕ, suc, Bool, true, false, List, [], ◌∷◌, ◌++◌, length, Option, Some, None, refl, sym, ap, subst, ◌∙◌, arith, length-append}
use Rattle.std.specs.List.{cons_option}
use Rattle.std.proofs.lemmas.List.{append_assoc}
use Rattle.ob_tree.specs.declared.decl.Decl.{Decl}
use Rattle.ob_rules.specs.declared.entity.Known.{Known}
use Rattle.ob_rules.specs.Names.{Around}
use Rattle.ob_rules.specs.Types.{with_types}
use Rattle.ob_rules.specs.Headings.{WrittenHeading, Head, Heads, head_of, types_of, name_twice, knows_procedure, known_behind, declared_head, head_entity, add_heading, reversed}
use Rattle.ob_rules.specs.Declarations.{Written_procedure, procedure_of, declaration, headings_in_order}
use Rattle.ob_cdecl.specs.Growing.{Grows}
use Rattle.ob_cdecl.proofs.Growing.{grows_not, grows_on, grows_types}
use Rattle.ob_cdecl_heading.specs.declared.head.Head.{Head as Kept}
use Rattle.ob_cdecl_heading.specs.Kept.{IsKept, AreKept}
use Rattle.ob_cdecl_block.specs.Steps.{procedures_in, headings_from, headings, heading_added}
use Rattle.ob_cdecl_block.specs.Procedures.{IsReady, AreReady, IsBehind, AreBehind}

-- WHAT STANDS AROUND GROWS

knows_grows : (u : Around) (h : Head) (b : Bool) → Grows u (knows_procedure u h b)
knows_grows u h true = grows_not u
knows_grows u h false = record { names = record { name = h.name; scope = u.scope; what = head_entity u h h.parameters } ∷ []; types = []; grown = refl }

behind_grows : (u : Around) (twice : Bool) (h : Head) → Grows u (known_behind u twice h)
behind_grows u true h = grows_not u
behind_grows u false h = knows_grows u h h.is_bound

pub heading_grows : (hs : Heads) (h : WrittenHeading) (forward : Bool) → Grows hs.around (add_heading hs h forward).around
heading_grows hs h forward =
    let s = head_of hs.around h forward in
    let u = with_types hs.around (types_of s.parameters) in
    let b = name_twice u hs.before s in
    grows_on hs.around u (known_behind u b s) (grows_types hs.around (types_of s.parameters)) (behind_grows u b s)

pub headings_grow : (ps : List Written_procedure) (hs : Heads) → Grows hs.around (headings_in_order ps hs).around
headings_grow [] hs = grows_not hs.around
headings_grow (p ∷ ps) hs =
    let next = add_heading hs p.heading p.forward in
    grows_on hs.around next.around (headings_in_order ps next).around (heading_grows hs p.heading p.forward) (headings_grow ps next)

pub grown_scope : (u v : Around) → Grows u v → v.scope ≡ u.scope
grown_scope u v g = ap (λ x. x.scope) g.grown

-- WHAT IS KNOWN BEHIND A HEADING IS KNOWN LATER

behind_more : (names known new : List Known) (h : Head) → new ≡ names ++ known → IsBehind known h → IsBehind new h
behind_more names known new h e b = record { later = names ++ b.later; is = e ∙ ap (λ l. names ++ l) b.is ∙ sym (append_assoc names b.later h.known) }

pub all_behind_more : (names known new : List Known) (hs : List Head) → new ≡ names ++ known → AreBehind known hs → AreBehind new hs
all_behind_more names known new [] e b = tt
all_behind_more names known new (h ∷ hs) e b = (behind_more names known new h e b.0, all_behind_more names known new hs e b.1)

new_behind : (twice : Bool) (s : Head) (u : Around) → IsBehind u.known (declared_head twice s u)
new_behind true s u = record { later = []; is = refl }
new_behind false s u = record { later = []; is = refl }

heading_behind : (hs : Heads) (h : WrittenHeading) (forward : Bool) → AreBehind hs.around.known hs.before → AreBehind (add_heading hs h forward).around.known (add_heading hs h forward).before
heading_behind hs h forward b =
    let s = head_of hs.around h forward in
    let u = with_types hs.around (types_of s.parameters) in
    let t = name_twice u hs.before s in
    let v = known_behind u t s in
    let g = behind_grows u t s in
    (new_behind t s v, all_behind_more g.names hs.around.known v.known hs.before (ap (λ x. x.known) g.grown) b)

pub headings_behind : (ps : List Written_procedure) (hs : Heads) → AreBehind hs.around.known hs.before → AreBehind (headings_in_order ps hs).around.known (headings_in_order ps hs).before
headings_behind [] hs b = b
headings_behind (p ∷ ps) hs b = headings_behind ps (add_heading hs p.heading p.forward) (heading_behind hs p.heading p.forward b)

behind_joined : (known : List Known) (fs gs : List Head) → AreBehind known fs → AreBehind known gs → AreBehind known (fs ++ gs)
behind_joined known [] gs a b = b
behind_joined known (h ∷ fs) gs a b = (a.0, behind_joined known fs gs a.1 b)

pub behind_reversed : (known : List Known) (hs : List Head) → AreBehind known hs → AreBehind known (reversed hs)
behind_reversed known [] b = tt
behind_reversed known (h ∷ hs) b = behind_joined known (reversed hs) (h ∷ []) (behind_reversed known hs b.1) (b.0, tt)

pub all_behind : (ds : List Decl) (u : Around) → AreBehind (headings ds u).around.known (reversed (headings ds u).before)
all_behind ds u =
    let start : Heads = record { around = u; before = [] } in
    behind_reversed (headings ds u).around.known (headings ds u).before (headings_behind (procedures_in ds) start tt)

-- WHAT THE HEADINGS NEED IS THERE

one_ready : (n : ℕ) (known : List Known) (h : Kept) (s : Head) → IsKept (suc n) h s → IsBehind known s → IsReady n known h
one_ready n known h s k b =
    let long = ap length b.is ∙ length-append b.later s.known in
    let kept = k.behind in
    let scope = k.scope in
    record { scope = omega (arith, scope); behind = omega (arith, long, kept) }

pub are_ready : (n m : ℕ) (known : List Known) (hs : List Kept) (ss : List Head) → m ≡ suc n → AreKept m hs ss → AreBehind known ss → AreReady n known hs
are_ready n m known [] ss e k b = tt
are_ready n m known (h ∷ hs) [] e k b = absurd k
are_ready n m known (h ∷ hs) (s ∷ ss) e k b = (one_ready n known h s (subst (λ x. IsKept x h s) e k.0) b.0, are_ready n m known hs ss e k.1 b.1)

-- ONE MORE HEADING

added_first : (o : Option Written_procedure) (ps : List Written_procedure) (hs : Heads) → headings_in_order (cons_option o ps) hs ≡ headings_in_order ps (heading_added o hs)
added_first None ps hs = refl
added_first (Some p) ps hs = refl

pub headings_step : (d : Decl) (more all : List Decl) (hs : Heads) → all ≡ d ∷ more → headings_from all hs ≡ headings_from more (heading_added (procedure_of (declaration d)) hs)
headings_step d more all hs e = ap (λ l. headings_from l hs) e ∙ added_first (procedure_of (declaration d)) (procedures_in more) hs

added_grows : (o : Option Written_procedure) (hs : Heads) → Grows hs.around (heading_added o hs).around
added_grows None hs = grows_not hs.around
added_grows (Some p) hs = heading_grows hs p.heading p.forward

-- the headings so far, and those that are left
pub record HeadingsSo (total : Heads) (left : List Decl) (u : Around) (heads : List Kept) : Type 0 where
  pub so : Heads
  pub around : u ≡ so.around
  pub kept : AreKept (suc so.around.scope) heads (reversed so.before)
  pub rest : headings_from left so ≡ total

pub headings_begin : (ds : List Decl) (u : Around) (heads : List Kept) → heads ≡ [] → HeadingsSo (headings ds u) ds u heads
headings_begin ds u heads e = record { so = record { around = u; before = [] }; around = refl; kept = subst (λ l. AreKept (suc u.scope) l []) (sym e) tt; rest = refl }

pub headings_more : (total : Heads) (d : Decl) (more all : List Decl) (u v : Around) (old new : List Kept) → all ≡ d ∷ more → HeadingsSo total all u old
    → ((hs : Heads) → u ≡ hs.around → AreKept (suc hs.around.scope) old (reversed hs.before) → v ≡ (heading_added (procedure_of (declaration d)) hs).around)
    → ((hs : Heads) → u ≡ hs.around → AreKept (suc hs.around.scope) old (reversed hs.before) → AreKept (suc hs.around.scope) new (reversed (heading_added (procedure_of (declaration d)) hs).before))
    → HeadingsSo total more v new
headings_more total d more all u v old new step s f g =
    let next = heading_added (procedure_of (declaration d)) s.so in
    record {
      so = next;
      around = f s.so s.around s.kept;
      kept = subst (λ n. AreKept (suc n) new (reversed next.before)) (sym (grown_scope s.so.around next.around (added_grows (procedure_of (declaration d)) s.so))) (g s.so s.around s.kept);
      rest = sym (headings_step d more all s.so step) ∙ s.rest;
    }

pub headings_end_around : (total : Heads) (left : List Decl) (u : Around) (heads : List Kept) → left ≡ [] → HeadingsSo total left u heads → u ≡ total.around
headings_end_around total left u heads e s = s.around ∙ ap (λ x. x.around) (ap (λ l. headings_from l s.so) (sym e) ∙ s.rest)

pub headings_end_kept : (ds : List Decl) (w : Around) (left : List Decl) (u : Around) (heads : List Kept) → left ≡ [] → HeadingsSo (headings ds w) left u heads → AreKept (suc w.scope) heads (reversed (headings ds w).before)
headings_end_kept ds w left u heads e s =
    let same : s.so ≡ headings ds w = ap (λ l. headings_from l s.so) (sym e) ∙ s.rest in
    let P : Heads → Type 0 = λ x. AreKept (suc x.around.scope) heads (reversed x.before) in
    let start : Heads = record { around = w; before = [] } in
    subst (λ n. AreKept (suc n) heads (reversed (headings ds w).before)) (grown_scope w (headings ds w).around (headings_grow (procedures_in ds) start)) (subst P same s.kept)
