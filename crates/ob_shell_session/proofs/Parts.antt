-- Lines by their parts: one part, and one part before others.
use Rattle.std.proofs.Common.{◌≡◌, ℕ, suc, List, [], ◌∷◌, ◌++◌, length, take, drop, Bool, refl, sym, ap, ◌∙◌, subst, append_assoc, Result, Ok, Err, arith}
use Rattle.std.proofs.lemmas.List.{append-nil}
use Rattle.ob_io.specs.Io.{AddsFront, put}
use Rattle.ob_link.specs.Files.{Files}
use Rattle.ob_load.specs.Standing.{Standing}
use Rattle.ob_shell_reports.specs.declared.stop.Stop.{Stop}
use Rattle.ob_shell_reports.specs.declared.stop.Stop.TheVariants.{Sink, Folder, Memory}
use Rattle.ob_shell_model.specs.Folds.{Part, Answer, part, printed_by, made_by}
use Rattle.ob_shell_model.specs.Bytes.{World, Change, changed}
use Rattle.ob_shell_model.specs.Session.{first_part, part_at}
use Rattle.ob_shell_session.specs.Does.{LineDoes, PartsStop, OneDoes, FilesDo, IsOne}

-- LISTS

pub take_all : {A : Type 0} (xs : List A) → take (length xs) xs ≡ xs
take_all [] = refl
take_all (x ∷ xs) = ap (λ r. x ∷ r) (take_all xs)

pub drop_all : {A : Type 0} (xs : List A) → drop (length xs) xs ≡ []
drop_all [] = refl
drop_all (x ∷ xs) = drop_all xs

pub changed_more : (a b : List Change) (files : Files) → changed files (a ++ b) ≡ changed (changed files a) b
changed_more [] b files = refl
changed_more (c ∷ a) b files = changed_more a b (put files c.0 c.1)

-- where a text was added to nothing
pub front_from : (before mid now text : List ℕ) → mid ≡ before → AddsFront before now text → AddsFront mid now text
front_from before mid now text e f = subst (λ (x : List ℕ). AddsFront x now text) (sym e) f

-- ONE PART

-- a fault at the first part
pub files_stop : (p : Part Change) (ps : List (Part Change)) (before now : List ℕ) (old files : Files) (value : Bool) (stop : Stop) → FilesDo before now old files p.changes p.text value (Err stop) → PartsStop (p ∷ ps) before now old files stop
files_stop p ps before now old files value Sink d = (0, front_from before (before ++ []) now p.text (append-nil before) d.0, d.1)
files_stop p ps before now old files value Folder d = (0, d.1.0, d.0 ∙ sym (append-nil before), d.1.1)
files_stop p ps before now old files value Memory d = (0, omega arith, d.0 ∙ sym (append-nil before), d.1)

one_does : (p : Part Change) (v : World) (b : Bool) (before now : List ℕ) (old files : Files) (new : Standing) (result : Result Bool Stop) → OneDoes before now old files new (record { world = v; parts = p ∷ []; refused = b }) result → LineDoes before now old files new (record { world = v; parts = p ∷ []; refused = b }) result
one_does p v b before now old files new (Ok r) d = (d.0 ∙ ap (λ x. before ++ x) (sym (append-nil p.text)), d.1, d.2)
one_does p v b before now old files new (Err Sink) d = files_stop p [] before now old files b Sink d
one_does p v b before now old files new (Err Folder) d = files_stop p [] before now old files b Folder d
one_does p v b before now old files new (Err Memory) d = files_stop p [] before now old files b Memory d

-- an answer of one part
pub one_is : (a : Answer World Change) → IsOne a → a ≡ record { world = a.world; parts = part (first_part a.parts).changes (first_part a.parts).text; refused = a.refused }
one_is a e = λ i. record { world = a.world; parts = e i; refused = a.refused }

pub one_line : (a : Answer World Change) (before now : List ℕ) (old files : Files) (new : Standing) (result : Result Bool Stop) → IsOne a → OneDoes before now old files new a result → LineDoes before now old files new a result
one_line a before now old files new result e d =
    subst (λ (x : Answer World Change). LineDoes before now old files new x result) (sym (one_is a e))
    (one_does (first_part a.parts) a.world a.refused before now old files new result
    (subst (λ (x : Answer World Change). OneDoes before now old files new x result) (one_is a e) d))

-- ONE PART MORE IN FRONT

pub stop_behind : (p : Part Change) (ps : List (Part Change)) (before mid now : List ℕ) (old there files : Files) (stop : Stop) → mid ≡ before ++ p.text → there ≡ changed old p.changes → PartsStop ps mid now there files stop → PartsStop (p ∷ ps) before now old files stop
stop_behind p ps before mid now old there files Sink m t d =
    let k = d.0 in
    let q = printed_by (take k ps) in
    let c = made_by (take k ps) in
    let l = (part_at k ps).changes in (
      suc k,
      front_from (mid ++ q) (before ++ (p.text ++ q)) now (part_at k ps).text (sym (append_assoc before p.text q) ∙ ap (λ x. x ++ q) (sym m)) d.1,
      d.2 ∙ ap (λ (x : Files). changed x (c ++ l)) t ∙ sym (changed_more p.changes (c ++ l) old) ∙ ap (changed old) (sym (append_assoc p.changes c l)),
    )
stop_behind p ps before mid now old there files Folder m t d =
    let k = d.0 in
    let q = printed_by (take k ps) in
    let c = made_by (take k ps) in
    let l = take d.1 (part_at k ps).changes in (
      suc k,
      d.1,
      d.2 ∙ ap (λ x. x ++ q) m ∙ append_assoc before p.text q,
      d.3 ∙ ap (λ (x : Files). changed x (c ++ l)) t ∙ sym (changed_more p.changes (c ++ l) old) ∙ ap (changed old) (sym (append_assoc p.changes c l)),
    )
stop_behind p ps before mid now old there files Memory m t d =
    let k = d.0 in
    let q = printed_by (take k ps) in
    let c = made_by (take k ps) in
    let h = d.1 in (
      suc k,
      omega (arith, h),
      d.2 ∙ ap (λ x. x ++ q) m ∙ append_assoc before p.text q,
      d.3 ∙ ap (λ (x : Files). changed x c) t ∙ sym (changed_more p.changes c old),
    )
