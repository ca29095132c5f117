-- Variables of a procedure with different names are found by them.
use Rattle.std.proofs.Common.{◌≡◌, sym, ap, ◌∙◌, subst, ℕ, List, [], ◌∷◌, ◌++◌, map, false, inl, inr}
use Rattle.std.specs.Prelude.{bytes_eq, if◌then◌else◌}
use Rattle.ob_tree.specs.declared.pos.Pos.{Pos}
use Rattle.ob_types.specs.TypedSyntax.{Procedure}
use Rattle.ob_meaning.specs.Values.{Program, Held}
use Rattle.ob_meaning.specs.Calls.{held_variable, hidden_held, hidden_of_all}
use Rattle.law_simulation_relation.specs.Layout.{held_name, held_form, form_named, static_parameter, static_held}
use Rattle.law_simulation_relation.specs.Relation.{OrElse, Fresh, AreDifferent}
use Rattle.law_simulation_relation.specs.Typed as typed
use Rattle.law_simulation_relation.specs.Typed.{As, IsOwn}
use Rattle.law_simulation_relation.proofs.Names.{bytes_same, bytes_sym}
use Rattle.law_typing_forms.specs.Said.{IsOneOf}
use Rattle.law_typing.specs.Bodies.{in_all, hidden_places}
use Rattle.law_typing.specs.Laws.{Having}
use Rattle.law_body_context.specs.Laws.{HiddenStand}
use Rattle.law_body_context.proofs.Lists.{one_right, all_one}
use Rattle.law_body_context.proofs.Places.{Keeps, stmts_keep}
use Rattle.law_lists.proofs.Lists.{IfThere}

fresh_of : (x : List ℕ) (hs : List Held) (h : Held) → Fresh x hs → IsOneOf hs h → bytes_eq x (held_name h) ≡ false
fresh_of x [] h f i = absurd i
fresh_of x (g ∷ hs) h f (inl e) = subst (λ g. bytes_eq x (held_name g) ≡ false) e f.0
fresh_of x (g ∷ hs) h f (inr i) = fresh_of x hs h f.1 i

pub form_there : (hs : List Held) → AreDifferent hs → (h : Held) → IsOneOf hs h → form_named hs (held_name h) ≡ held_form h
form_there [] d h i = absurd i
form_there (g ∷ hs) d h (inl e) = subst (λ h. form_named (g ∷ hs) (held_name h) ≡ held_form h) e (ap (λ b. if b then held_form g else form_named hs (held_name g)) (bytes_same (held_name g)))
form_there (g ∷ hs) d h (inr i) =
    let f : bytes_eq (held_name h) (held_name g) ≡ false = bytes_sym (held_name h) (held_name g) ∙ fresh_of (held_name g) hs h d.0 i in
    ap (λ b. if b then held_form g else form_named hs (held_name h)) f ∙ form_there hs d.1 h i

pub kind_there : (Kind : Held → Type 0) (hs : List Held) → AreDifferent hs → (h : Held) → IsOneOf hs h → Kind h → As Kind hs (held_name h)
kind_there Kind [] d h i k = absurd i
kind_there Kind (g ∷ hs) d h (inl e) k = subst (λ h. As Kind (g ∷ hs) (held_name h)) e (subst (λ b. OrElse b (Kind g) (As Kind hs (held_name g))) (sym (bytes_same (held_name g))) (subst Kind (sym e) k))
kind_there Kind (g ∷ hs) d h (inr i) k =
    let f : bytes_eq (held_name h) (held_name g) ≡ false = bytes_sym (held_name h) (held_name g) ∙ fresh_of (held_name g) hs h d.0 i in
    subst (λ b. OrElse b (Kind g) (As Kind hs (held_name h))) (sym f) (kind_there Kind hs d.1 h i k)

pub one_mapped : {A B : Type 0} (f : A → B) (xs : List A) (x : A) → IsOneOf xs x → IsOneOf (map f xs) (f x)
one_mapped f [] x h = absurd h
one_mapped f (y ∷ xs) x (inl e) = inl (ap f e)
one_mapped f (y ∷ xs) x (inr h) = inr (one_mapped f xs x h)

-- the variables that FOR and CASE keep are among those of the procedure
pub hidden_among : (program : Program) (p : Procedure) (at : Pos) → IsOneOf (hidden_of_all p.body) at → IsOneOf (static_held program p) (hidden_held at)
hidden_among program p at i = one_right (map (static_parameter program) p.parameters) (map (held_variable program) p.locals ++ map hidden_held (hidden_of_all p.body)) (hidden_held at) (one_right (map (held_variable program) p.locals) (map hidden_held (hidden_of_all p.body)) (hidden_held at) (one_mapped hidden_held (hidden_of_all p.body) at i))

pub hidden_stand : HiddenStand
hidden_stand program has unit result u xs ys e p b d =
    let held = static_held program p in
    let k = subst (IfThere (Keeps (in_all (map hidden_places xs)))) e (stmts_keep xs u) in
    all_one (λ at. typed.HiddenOk program (Having has) unit held result at) (in_all (map hidden_places xs))
    (λ at i.
    let j : IsOneOf held (hidden_held at) = hidden_among program p at (subst (λ b. IsOneOf (hidden_of_all b) at) (sym b) (k at i)) in
    (kind_there IsOwn held d (hidden_held at) j tt, form_there held d (hidden_held at) j))
