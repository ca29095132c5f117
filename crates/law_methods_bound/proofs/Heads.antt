-- Headings: their types have no bound procedures yet, their parameters are those of their signature, and what is bound is named so.
use Rattle.std.proofs.Common.{◌≡◌, refl, sym, ap, ◌∙◌, subst, ℕ, Bool, true, false, List, ◌++◌, Option, Some, None}
use Rattle.std.specs.Prelude.{codes}
use Rattle.std.specs.List.{AllByRecursion}
use Rattle.ob_tree.specs.declared.ident.Mark.{Mark}
use Rattle.ob_rules.specs.Judged.{both}
use Rattle.ob_rules.specs.Names.{Around}
use Rattle.ob_rules.specs.Types.{Parameters, with_types, marked, inner, parameters_in}
use Rattle.ob_rules.specs.Headings.{WrittenHeading, Head, BoundAs, Heads, path_by, bound_in, as_parameters, owner_if, heading_parameters, knows_receiver, head_of, declared_head, knows_procedure, known_behind, name_twice, types_of, add_heading, forward_name}
use Rattle.law_methods_described.proofs.Nodes.{second_has, anew_has}
use Rattle.law_methods_bound.proofs.Typings.{IsRaw, AreRaw, AreGoodSections, MakeRaw, parameters_good}
use Rattle.law_lists.proofs.Lists.{IfThere, all_both}

-- in a scope whose names begin so
pub record GoodHead (path : List ℕ) (h : Head) : Type 0 where
  pub parameters : IfThere MakeRaw h.parameters
  pub named : (b : BoundAs) → h.bound ≡ Some b → h.path ≡ path ++ (b.owner.object ++ codes "." ++ h.name)

abbrev pub AreGoodHeads : List ℕ → List Head → Type 0
AreGoodHeads path hs = AllByRecursion (GoodHead path) hs

as_good : (o : Option ((Mark × Option BoundAs) × Parameters)) → IfThere (λ p. Unit {0} × MakeRaw p.1) o → IfThere MakeRaw (as_parameters o)
as_good None h = tt
as_good (Some p) h = h.1

path_is : (path : List ℕ) (o : Option (Option BoundAs)) (x : List ℕ) (b : BoundAs) → bound_in o ≡ Some b → path ++ path_by o x ≡ path ++ (b.owner.object ++ codes "." ++ x)
path_is path None x b e = absurd cc
path_is path (Some None) x b e = absurd cc
path_is path (Some (Some c)) x b e = let same : c ≡ b = cc in ap (λ (y : BoundAs). path ++ (y.owner.object ++ codes "." ++ x)) same

pub head_good : (u : Around) (h : WrittenHeading) (forward : Bool) → AreGoodSections h.parameters.sections → GoodHead u.path (head_of u h forward)
head_good u h forward g =
    let m = marked u false h.name in
    let b = owner_if u h.receiver in
    let s = heading_parameters u h forward b in
    record {
      parameters = as_good (both (both m b) s.found).node (second_has MakeRaw (both m b) s.found (anew_has MakeRaw u h.name.ident.«pos» (parameters_in (knows_receiver (inner u) h.receiver b.node) (forward_name forward (u.path ++ path_by b.node h.name.ident.name)) h.parameters) (parameters_good (knows_receiver (inner u) h.receiver b.node) _ h.parameters g)));
      named = λ c e. path_is u.path b.node h.name.ident.name c e;
    }

pub types_raw : (o : Option Parameters) → IfThere MakeRaw o → AreRaw (types_of o)
types_raw None h = tt
types_raw (Some p) h = h.0

-- ---- headings in order

pub record GoodHeads (path : List ℕ) (hs : Heads) : Type 0 where
  pub path_is : hs.around.path ≡ path
  pub before : AreGoodHeads path hs.before

declared_good : (path : List ℕ) (twice : Bool) (h : Head) → GoodHead path h → (u : Around) → GoodHead path (declared_head twice h u)
declared_good path true h g u = record { parameters = tt; named = g.named }
declared_good path false h g u = record { parameters = g.parameters; named = g.named }

procedure_path : (u : Around) (h : Head) (b : Bool) → (knows_procedure u h b).path ≡ u.path
procedure_path u h true = refl
procedure_path u h false = refl

behind_path : (u : Around) (twice : Bool) (h : Head) → (known_behind u twice h).path ≡ u.path
behind_path u true h = refl
behind_path u false h = procedure_path u h h.is_bound

procedure_own : (u : Around) (h : Head) (b : Bool) → (knows_procedure u h b).own ≡ u.own
procedure_own u h true = refl
procedure_own u h false = refl

behind_own : (u : Around) (twice : Bool) (h : Head) → (known_behind u twice h).own ≡ u.own
behind_own u true h = refl
behind_own u false h = procedure_own u h h.is_bound

pub add_good : (path : List ℕ) (hs : Heads) → GoodHeads path hs → (h : WrittenHeading) → AreGoodSections h.parameters.sections → (forward : Bool) → GoodHeads path (add_heading hs h forward)
add_good path hs g h s forward =
    let d = head_of hs.around h forward in
    let e = subst (λ p. GoodHead p d) g.path_is (head_good hs.around h forward s) in
    let u = with_types hs.around (types_of d.parameters) in
    let t = name_twice u hs.before d in
    record {
      path_is = behind_path u t d ∙ g.path_is;
      before = (declared_good path t d e (known_behind u t d), g.before);
    }

-- the types that are known behind a heading
pub add_raw : (hs : Heads) (h : WrittenHeading) → AreGoodSections h.parameters.sections → (forward : Bool) → AreRaw hs.around.own → AreRaw (add_heading hs h forward).around.own
add_raw hs h s forward r =
    let d = head_of hs.around h forward in
    let u = with_types hs.around (types_of d.parameters) in
    subst AreRaw (sym (behind_own u (name_twice u hs.before d) d)) (all_both IsRaw (types_of d.parameters) hs.around.own (types_raw d.parameters (head_good hs.around h forward s).parameters) r)
