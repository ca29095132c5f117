-- A walk over what keeps texts, and one over the same with prints for texts, come to the same.
use Rattle.std.proofs.Common.{◌≡◌, ℕ, zero, suc, ◌+◌, Bool, true, false, List, [], ◌∷◌, ◌++◌, length, refl, sym, ap, subst}
use Rattle.std.specs.Prelude.{map as each, bytes_eq, ◌||◌, codes, nat_le}
use Rattle.std.specs.List.{list_any, AllByRecursion}
use Rattle.std.proofs.lemmas.List.{map-append, length-map}
use Rattle.ob_tree.specs.declared.print.Print.{Print}
use Rattle.ob_env.specs.Faces.{Face, printed}
use Rattle.ob_env_walk.specs.Walk.{Entry, Missing, Junk, Holds, Walked, Left, NoInterface, Damaged, Cycle, TooMany, go_on, is_among, is_passed_over, through, entered, at_entry, at_module, entering, visit, walk}
use Rattle.law_prints.specs.Printed.{Text, entry_printed, walked_printed}

-- what is known of the names that are looked up, and of the interfaces that are found for them
pub record Known (Q : List ℕ → Type 0) (F : Face Text → Type 0) (finds : List ℕ → Entry Text) (files : List ℕ → Entry Print) : Type 0 where
  pub same : (m : List ℕ) → Q m → files m ≡ entry_printed (finds m)
  pub holds : (m : List ℕ) (f : Face Text) → Q m → finds m ≡ Holds f → F f
  pub imports : (f : Face Text) → F f → AllByRecursion Q f.imports

abbrev pub AreKnown : (Face Text → Type 0) → Walked Text → Type 0
AreKnown F (Left faces) = AllByRecursion F faces
AreKnown F w = Unit {0}

-- the two walks come to the same, past interfaces that are known
pub record Alike (F : Face Text → Type 0) (w : Walked Print) (v : Walked Text) : Type 0 where
  pub same : w ≡ walked_printed v
  pub known : AreKnown F v

all_push : {A : Type 0} (P : A → Type 0) (xs : List A) (x : A) → AllByRecursion P xs → P x → AllByRecursion P (xs ++ x ∷ [])
all_push P [] x h p = (p, tt)
all_push P (y ∷ xs) x h p = (h.0, all_push P xs x h.1 p)

module _ (Q : List ℕ → Type 0) (F : Face Text → Type 0) where
  goes_on : (w : Walked Print) (v : Walked Text) (f : List (Face Print) → Walked Print) (g : List (Face Text) → Walked Text) → Alike F w v → ((more : List (Face Text)) → AllByRecursion F more → Alike F (f (each printed more)) (g more)) → Alike F (go_on w f) (go_on v g)
  goes_on w v f g a k = subst (λ (x : Walked Print). Alike F (go_on x f) (go_on v g)) (sym a.same) (go v a.known)
    where
      go : (v : Walked Text) → AreKnown F v → Alike F (go_on (walked_printed v) f) (go_on v g)
      go (Left more) known = k more known
      go (NoInterface m) known = record { same = refl; known = tt }
      go (Damaged m) known = record { same = refl; known = tt }
      go (Cycle m) known = record { same = refl; known = tt }
      go TooMany known = record { same = refl; known = tt }

  goes_through : (at : List ℕ → List (Face Print) → Walked Print) (by : List ℕ → List (Face Text) → Walked Text) → ((m : List ℕ) (left : List (Face Text)) → Q m → AllByRecursion F left → Alike F (at m (each printed left)) (by m left)) → (ms : List (List ℕ)) (left : List (Face Text)) → AllByRecursion Q ms → AllByRecursion F left → Alike F (through at ms (each printed left)) (through by ms left)
  goes_through at by one [] left q known = record { same = refl; known = known }
  goes_through at by one (m ∷ ms) left q known = goes_on (at m (each printed left)) (by m left) (λ more. through at ms more) (λ more. through by ms more) (one m left q.0 known) (λ more known. goes_through at by one ms more q.1 known)

  -- a module that is entered
  goes_into : (b : Bool) (f : Face Text) (w : List (List ℕ) → Walked Print) (v : List (List ℕ) → Walked Text) → F f → Alike F (w f.imports) (v f.imports) → Alike F (entered b w (printed f)) (entered b v f)
  goes_into true f w v known a = goes_on (w f.imports) (v f.imports) (λ more. Left (more ++ printed f ∷ [])) (λ more. Left (more ++ f ∷ [])) a (λ more all. record { same = ap (λ (l : List (Face Print)). Left l) (sym (map-append printed more (f ∷ []))); known = all_push F more f all known })
  goes_into false f w v known a = record { same = refl; known = tt }

  goes_at : (e : Entry Text) (b : Bool) (m : List ℕ) (w : List (List ℕ) → Walked Print) (v : List (List ℕ) → Walked Text) → ((f : Face Text) → e ≡ Holds f → F f) → ((f : Face Text) → F f → Alike F (w f.imports) (v f.imports)) → Alike F (at_entry (entry_printed e) b w m) (at_entry e b v m)
  goes_at Missing b m w v holds below = record { same = refl; known = tt }
  goes_at Junk b m w v holds below = record { same = refl; known = tt }
  goes_at (Holds f) b m w v holds below = goes_into b f w v (holds f refl) (below f (holds f refl))

  passes_over : (m : List ℕ) (left : List (Face Text)) → is_passed_over m (each printed left) ≡ is_passed_over m left
  passes_over m left = ap (λ (b : Bool). (bytes_eq m (codes "Out") || bytes_eq m (codes "SYSTEM")) || b) (any left)
    where
      any : (left : List (Face Text)) → list_any (λ (f : Face Print). bytes_eq m f.«module») (each printed left) ≡ list_any (λ (f : Face Text). bytes_eq m f.«module») left
      any [] = refl
      any (f ∷ left) = ap (λ (b : Bool). bytes_eq m f.«module» || b) (any left)

  goes_by : (passed on_path : Bool) (path : List (List ℕ)) (left : List (Face Text)) (w : Unit {0} → Walked Print) (v : Unit {0} → Walked Text) → AllByRecursion F left → Alike F (w tt) (v tt) → Alike F (at_module passed on_path path (each printed left) w) (at_module passed on_path path left v)
  goes_by true on_path path left w v known a = record { same = refl; known = known }
  goes_by false true path left w v known a = record { same = refl; known = tt }
  goes_by false false path left w v known a = a

  module _ (finds : List ℕ → Entry Text) (files : List ℕ → Entry Print) (k : Known Q F finds files) where
    goes_to : (w : List (List ℕ) → List (Face Print) → Walked Print) (v : List (List ℕ) → List (Face Text) → Walked Text) (path : List (List ℕ)) (m : List ℕ) (left : List (Face Text)) → Q m → ((f : Face Text) → F f → Alike F (w f.imports (each printed left)) (v f.imports left)) → Alike F (entering files w path m (each printed left)) (entering finds v path m left)
    goes_to w v path m left q below =
        subst (λ (e : Entry Print). Alike F (at_entry e (nat_le (length (each printed left) + length path) 255) (λ imports. w imports (each printed left)) m) (entering finds v path m left)) (sym (k.same m q))
        (subst (λ (n : ℕ). Alike F (at_entry (entry_printed (finds m)) (nat_le (n + length path) 255) (λ imports. w imports (each printed left)) m) (entering finds v path m left)) (sym (length-map left printed))
        (goes_at (finds m) (nat_le (length left + length path) 255) m (λ imports. w imports (each printed left)) (λ imports. v imports left) (λ f e. k.holds m f q e) below))

    visits : (n : ℕ) (path : List (List ℕ)) (m : List ℕ) (left : List (Face Text)) → Q m → AllByRecursion F left → Alike F (visit files n path m (each printed left)) (visit finds n path m left)
    unfolding visit
    visits zero path m left q known = record { same = refl; known = tt }
    visits (suc n) path m left q known =
        let enter : Alike F (entering files (through (visit files n (m ∷ path))) path m (each printed left)) (entering finds (through (visit finds n (m ∷ path))) path m left) =
        goes_to (through (visit files n (m ∷ path))) (through (visit finds n (m ∷ path))) path m left q (λ f known_f. goes_through (visit files n (m ∷ path)) (visit finds n (m ∷ path)) (λ m1 left1 q1 known1. visits n (m ∷ path) m1 left1 q1 known1) f.imports left (k.imports f known_f) known) in
        subst (λ (b : Bool). Alike F (at_module b (is_among m path) path (each printed left) (λ _. entering files (through (visit files n (m ∷ path))) path m (each printed left))) (at_module (is_passed_over m left) (is_among m path) path left (λ _. entering finds (through (visit finds n (m ∷ path))) path m left))) (sym (passes_over m left))
        (goes_by (is_passed_over m left) (is_among m path) path left (λ _. entering files (through (visit files n (m ∷ path))) path m (each printed left)) (λ _. entering finds (through (visit finds n (m ∷ path))) path m left) known enter)

    -- THE WALKS
    pub walks : (root : List ℕ) (imports : List (List ℕ)) → AllByRecursion Q imports → Alike F (walk files root imports) (walk finds root imports)
    walks root imports q = goes_through (visit files 257 (root ∷ [])) (visit finds 257 (root ∷ [])) (λ m left q1 known. visits 257 (root ∷ []) m left q1 known) imports [] q tt
