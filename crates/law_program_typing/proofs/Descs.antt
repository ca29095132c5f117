-- Bound procedures by their names, in what becomes of a description: laid out, shown, and with more.
use Rattle.std.proofs.Common.{◌≡◌, refl, sym, ap, ◌∙◌, ℕ, suc, Bool, true, false, List, [], ◌∷◌, ◌++◌, map as each, Some, None}
use Rattle.std.specs.Prelude.{bytes_eq, cond}
use Rattle.std.specs.List.{find, filter}
use Rattle.ob_tree.specs.declared.names.QName.{QName}
use Rattle.ob_types.specs.declared.types.TypeRef.{TypeRef}
use Rattle.ob_types.specs.declared.desc.Desc.{Desc}
use Rattle.ob_types.specs.declared.desc.Desc.TheVariants as desc
use Rattle.ob_types.specs.declared.desc.Method.{Method}
use Rattle.ob_types.specs.declared.desc.RecordDesc.{RecordDesc}
use Rattle.ob_layout.specs.LaidOut.{numbered, laid_record, laid_desc}
use Rattle.ob_desc.specs.Grammar.{is_shown, seen}
use Rattle.ob_uses.specs.Objects.{in_places}
use Rattle.ob_env.specs.Shown.{unnumbered, blank}
use Rattle.law_body_context.specs.Judged.{with_methods}
use Rattle.law_body_context.specs.Order.{IsFresh, IsBased}

abbrev pub named_so : List ℕ → Method → Bool
named_so x m = bytes_eq m.name x

-- the description is of a record with a bound procedure of that name
pub record HasIn (d : Desc) (x : List ℕ) : Type 0 where
  pub r : RecordDesc
  pub is : d ≡ desc.Record r
  pub k : Method
  pub found : find (named_so x) r.methods ≡ Some k

abbrev Finds : List ℕ → List Method → Type 0
Finds x ms = (k : Method) × (find (named_so x) ms ≡ Some k)

found_if : (x : List ℕ) (b : Bool) (m n : Method) (ms ns : List Method) → (Finds x ms → Finds x ns) → (k : Method) × (cond b (Some m) (find (named_so x) ms) ≡ Some k) → (k : Method) × (cond b (Some n) (find (named_so x) ns) ≡ Some k)
found_if x true m n ms ns f h = (n, refl)
found_if x false m n ms ns f h = f h

numbered_found : (x : List ℕ) (n : ℕ) (ms : List Method) → Finds x ms → Finds x (numbered n ms)
numbered_found x n [] h = h
numbered_found x n (m ∷ ms) h = found_if x (bytes_eq m.name x) m (record m { number = n }) ms (numbered (suc n) ms) (numbered_found x (suc n) ms) h

numbered_back : (x : List ℕ) (n : ℕ) (ms : List Method) → Finds x (numbered n ms) → Finds x ms
numbered_back x n [] h = h
numbered_back x n (m ∷ ms) h = found_if x (bytes_eq m.name x) (record m { number = n }) m (numbered (suc n) ms) ms (numbered_back x (suc n) ms) h

blank_found : (x : List ℕ) (ms : List Method) → Finds x ms → Finds x (each unnumbered ms)
blank_found x [] h = h
blank_found x (m ∷ ms) h = found_if x (bytes_eq m.name x) m (unnumbered m) ms (each unnumbered ms) (blank_found x ms) h

blank_back : (x : List ℕ) (ms : List Method) → Finds x (each unnumbered ms) → Finds x ms
blank_back x [] h = h
blank_back x (m ∷ ms) h = found_if x (bytes_eq m.name x) (unnumbered m) m (each unnumbered ms) ms (blank_back x ms) h

more_found : (x : List ℕ) (ms more : List Method) → Finds x ms → Finds x (ms ++ more)
more_found x [] more h = absurd (no h.0 h.1)
  where
    no : (k : Method) → None ≡ Some k → ⊥
    no k e = absurd cc
more_found x (m ∷ ms) more h = found_if x (bytes_eq m.name x) m m ms (ms ++ more) (more_found x ms more) h

found_second : (x : List ℕ) (b : Bool) (m : Method) (ms : List Method) → Finds x ms → (k : Method) × (cond b (Some m) (find (named_so x) ms) ≡ Some k)
found_second x true m ms h = (m, refl)
found_second x false m ms h = h

filtered_back : (x : List ℕ) (test : Method → Bool) (ms : List Method) → Finds x (filter test ms) → Finds x ms
filtered_back x test [] h = h
filtered_back x test (m ∷ ms) h = by (test m) h (filtered_back x test ms)
  where
    by : (b : Bool) → Finds x (cond b (m ∷ filter test ms) (filter test ms)) → (Finds x (filter test ms) → Finds x ms) → Finds x (m ∷ ms)
    by true h up = found_if x (bytes_eq m.name x) m m (filter test ms) ms up h
    by false h up = found_second x (bytes_eq m.name x) m ms (up h)

methods_in : Desc → List Method
methods_in (desc.Record r) = r.methods
methods_in d = []

same_record : (a b : RecordDesc) → desc.Record a ≡ desc.Record b → a ≡ b
same_record a b e = cc

finds_in : (r : RecordDesc) (x : List ℕ) → HasIn (desc.Record r) x → Finds x r.methods
finds_in r x h = (h.k, ap (λ (z : RecordDesc). find (named_so x) z.methods) (same_record r h.r h.is) ∙ h.found)

has_in : (r : RecordDesc) (x : List ℕ) → Finds x r.methods → HasIn (desc.Record r) x
has_in r x h = record { r = r; is = refl; k = h.0; found = h.1 }

pub laid_has : (w p : TypeRef → ℕ) (q : QName) (d : Desc) (x : List ℕ) → HasIn d x → HasIn (laid_desc w p q d) x
laid_has w p q (desc.Record r) x h = has_in (laid_record w p q r) x (numbered_found x _ r.methods (finds_in r x h))
laid_has w p q (desc.Const v) x h = h
laid_has w p q (desc.Var m t) x h = h
laid_has w p q (desc.Proc s) x h = h
laid_has w p q (desc.Alias m t) x h = h
laid_has w p q (desc.Array m n t) x h = h
laid_has w p q (desc.OpenArray m t) x h = h
laid_has w p q (desc.Pointer m t) x h = h
laid_has w p q (desc.ProcType m s) x h = h

pub laid_back : (w p : TypeRef → ℕ) (q : QName) (d : Desc) (x : List ℕ) → HasIn (laid_desc w p q d) x → HasIn d x
laid_back w p q (desc.Record r) x h = has_in r x (numbered_back x _ r.methods (finds_in (laid_record w p q r) x h))
laid_back w p q (desc.Const v) x h = h
laid_back w p q (desc.Var m t) x h = h
laid_back w p q (desc.Proc s) x h = h
laid_back w p q (desc.Alias m t) x h = h
laid_back w p q (desc.Array m n t) x h = h
laid_back w p q (desc.OpenArray m t) x h = h
laid_back w p q (desc.Pointer m t) x h = h
laid_back w p q (desc.ProcType m s) x h = h

pub blank_back_has : (d : Desc) (x : List ℕ) → HasIn (blank d) x → HasIn d x
blank_back_has (desc.Record r) x h = has_in r x (blank_back x r.methods (finds_in _ x h))
blank_back_has (desc.Const v) x h = h
blank_back_has (desc.Var m t) x h = h
blank_back_has (desc.Proc s) x h = h
blank_back_has (desc.Alias m t) x h = h
blank_back_has (desc.Array m n t) x h = h
blank_back_has (desc.OpenArray m t) x h = h
blank_back_has (desc.Pointer m t) x h = h
blank_back_has (desc.ProcType m s) x h = h

pub seen_back : (d : Desc) (x : List ℕ) → HasIn (seen (in_places d)) x → HasIn d x
seen_back (desc.Record r) x h = has_in r x (filtered_back x (λ m. is_shown m.mark) r.methods (finds_in _ x h))
seen_back (desc.Const v) x h = h
seen_back (desc.Var m t) x h = h
seen_back (desc.Proc s) x h = h
seen_back (desc.Alias m t) x h = h
seen_back (desc.Array m n t) x h = h
seen_back (desc.OpenArray m t) x h = h
seen_back (desc.Pointer m t) x h = h
seen_back (desc.ProcType m s) x h = h

pub more_has : (ms : List Method) (d : Desc) (x : List ℕ) → HasIn d x → HasIn (with_methods ms d) x
more_has ms (desc.Record r) x h = has_in (record r { methods = r.methods ++ ms }) x (more_found x r.methods ms (finds_in r x h))
more_has ms (desc.Const v) x h = h
more_has ms (desc.Var m t) x h = h
more_has ms (desc.Proc s) x h = h
more_has ms (desc.Alias m t) x h = h
more_has ms (desc.Array m n t) x h = h
more_has ms (desc.OpenArray m t) x h = h
more_has ms (desc.Pointer m t) x h = h
more_has ms (desc.ProcType m s) x h = h

pub fresh_not : (d : Desc) (x : List ℕ) → IsFresh d → HasIn d x → ⊥
fresh_not (desc.Record r) x f h = let k = finds_in r x h in no k.0 (ap (find (named_so x)) (sym f) ∙ k.1)
  where
    no : (k : Method) → None ≡ Some k → ⊥
    no k e = absurd cc
fresh_not (desc.Const v) x f h = let e = h.is in absurd cc
fresh_not (desc.Var m t) x f h = let e = h.is in absurd cc
fresh_not (desc.Proc s) x f h = let e = h.is in absurd cc
fresh_not (desc.Alias m t) x f h = let e = h.is in absurd cc
fresh_not (desc.Array m n t) x f h = let e = h.is in absurd cc
fresh_not (desc.OpenArray m t) x f h = let e = h.is in absurd cc
fresh_not (desc.Pointer m t) x f h = let e = h.is in absurd cc
fresh_not (desc.ProcType m s) x f h = let e = h.is in absurd cc

-- ---- what descriptions are based on stays

pub more_based : (S : TypeRef → Type 0) (ms : List Method) (d : Desc) → IsBased S d → IsBased S (with_methods ms d)
more_based S ms (desc.Record r) h = h
more_based S ms (desc.Const v) h = h
more_based S ms (desc.Var m t) h = h
more_based S ms (desc.Proc s) h = h
more_based S ms (desc.Alias m t) h = h
more_based S ms (desc.Array m n t) h = h
more_based S ms (desc.OpenArray m t) h = h
more_based S ms (desc.Pointer m t) h = h
more_based S ms (desc.ProcType m s) h = h

pub laid_based : (S : TypeRef → Type 0) (w p : TypeRef → ℕ) (q : QName) (d : Desc) → IsBased S d → IsBased S (laid_desc w p q d)
laid_based S w p q (desc.Record r) h = h
laid_based S w p q (desc.Const v) h = h
laid_based S w p q (desc.Var m t) h = h
laid_based S w p q (desc.Proc s) h = h
laid_based S w p q (desc.Alias m t) h = h
laid_based S w p q (desc.Array m n t) h = h
laid_based S w p q (desc.OpenArray m t) h = h
laid_based S w p q (desc.Pointer m t) h = h
laid_based S w p q (desc.ProcType m s) h = h

pub shown_based : (S : TypeRef → Type 0) (d : Desc) → IsBased S d → IsBased S (blank (seen (in_places d)))
shown_based S (desc.Record r) h = h
shown_based S (desc.Const v) h = h
shown_based S (desc.Var m t) h = h
shown_based S (desc.Proc s) h = h
shown_based S (desc.Alias m t) h = h
shown_based S (desc.Array m n t) h = h
shown_based S (desc.OpenArray m t) h = h
shown_based S (desc.Pointer m t) h = h
shown_based S (desc.ProcType m s) h = h
