-- The program of builds in the image of their files, and in the image of these and further ones.
use Rattle.std.proofs.Common.{◌≡◌, ℕ, ◌+◌, ◌≤◌, List, [], ◌∷◌, ◌++◌, length, ℤ, refl, ap, sym, ◌∙◌, subst, arith, length-append}
use Rattle.std.proofs.lemmas.List.{append-nil}
use Rattle.std.specs.Prelude.{map, Contains}
use Rattle.std.specs.List.{AllByRecursion}
use Rattle.ob_tree.specs.declared.names.QName.{QName}
use Rattle.ob_types.specs.TypedSyntax.{Module}
use Rattle.ob_instr.specs.Image.{Image, World}
use Rattle.ob_obj.specs.Images.{image_of}
use Rattle.ob_meaning.specs.Values.{Program, RecordForm, Fields, fields_of, record_in, Value, State}
use Rattle.law_simulation_relation.specs.Layout.{type_number}
use Rattle.law_simulation_relation.specs.Relation.{ModulesOk}
use Rattle.law_simulation_relation.specs.Setting.{Setting, StandIn}
use Rattle.ob_link.specs.Members.{empty_image}
use Rattle.ob_link.specs.Plan.{words_of, most_modules}
use Rattle.ob_load.specs.Command.{image_for}
use Rattle.ob_builds.specs.Builds.{Build, file_of, asks}
use Rattle.ob_builds.specs.Afresh.{AreTogether}
use Rattle.law_builds.proofs.Members.{has_head, has_more}
use Rattle.law_program_runs.specs.Builds.{program_of, AreLoaded, AreEntered, AllStand, BuildsStand}
use Rattle.law_program_runs.proofs.Carried.{Carries}
use Rattle.law_program_runs.proofs.Joins.{Stays, stands_on}
use Rattle.law_program_runs.proofs.Images.{new_types, types_are, room_is, image_both, same_number}

pub map_both : {A B : Type 0} (f : A → B) (xs ys : List A) → map f (xs ++ ys) ≡ map f xs ++ map f ys
map_both f [] ys = refl
map_both f (x ∷ xs) ys = ap (λ l. f x ∷ l) (map_both f xs ys)

pub all_of : {A : Type 0} (Q : A → Type 0) (xs : List A) → ((x : A) → Contains xs x → Q x) → AllByRecursion Q xs
all_of Q [] h = tt
all_of Q (x ∷ xs) h = (h x (has_head x xs), all_of Q xs (λ y c. h y (has_more x xs y c)))

pub all_map : {A B : Type 0} (f : A → B) (Q : B → Type 0) (xs : List A) → AllByRecursion (λ x. Q (f x)) xs → AllByRecursion Q (map f xs)
all_map f Q [] h = tt
all_map f Q (x ∷ xs) h = (h.0, all_map f Q xs h.1)

pub all_two : {A : Type 0} (P Q R : A → Type 0) (xs : List A) → ((x : A) → P x → Q x → R x) → AllByRecursion P xs → AllByRecursion Q xs → AllByRecursion R xs
all_two P Q R [] f p q = tt
all_two P Q R (x ∷ xs) f p q = (f x p.0 q.0, all_two P Q R xs f p.1 q.1)

-- THE FIRST OF BUILDS THAT ARE LOADED

together_front : (before bs more : List Build) → AreTogether before (bs ++ more) → AreTogether before bs
together_front before [] more t = tt
together_front before (b ∷ bs) more t = (t.0, together_front (before ++ b ∷ []) bs more t.1)

few_more : (before bs : List Build) → length before ≤ most_modules → AreTogether before bs → length before + length bs ≤ most_modules
few_more before [] le t = omega (arith, le)
few_more before (b ∷ bs) le t =
    let n = length-append before (b ∷ []) in
    let h = t.0.few in
    let r = few_more (before ++ b ∷ []) bs (omega (arith, n, h)) t.1 in
    omega (arith, r, n)

-- builds that are together are few
pub are_few : (bs : List Build) → AreTogether [] bs → length bs ≤ most_modules
are_few bs t = let h = few_more [] bs (omega arith) t in omega (arith, h)

pub words_both : (bs more : List Build) → words_of asks (bs ++ more) ≡ words_of asks bs + words_of asks more
words_both [] more = omega arith
words_both (b ∷ bs) more = ap (λ n. asks.words b + n) (words_both bs more) ∙ omega arith

pub loaded_front : (bs more : List Build) → AreLoaded (bs ++ more) → AreLoaded bs
loaded_front bs more l = record {
  together = together_front [] bs more l.together;
  few = let n = length-append bs more in omega (arith, n, l.few);
}

pub entered_front : (bs more : List Build) → AreEntered (bs ++ more) → AreEntered bs
entered_front bs more l = record { loaded = loaded_front bs more l.loaded; words = let n = words_both bs more in omega (arith, n, l.words) }

-- SETTINGS

module _ (S : BuildsStand) (heap : ℕ) (few : heap ≤ 4194304) where
  module _ (all : List Build) (l : AreEntered all) where
    -- the first of all of them have joined
    module _ (bs more : List Build) (P : Program) (e : all ≡ bs ++ more) (p : P ≡ program_of bs) where
      abbrev pub front : AreEntered bs
      front = entered_front bs more (subst AreEntered e l)

      abbrev pub setting : List ℤ → Setting
      setting behind = record {
        program = P;
        has = S.values P;
        img = image_for (map file_of all);
        heap = heap;
        behind = behind;
        ok = subst (λ p. ModulesOk p p) (sym p) (S.different bs front.loaded);
        globals = ap (λ r. r.globals) (room_is empty_image (map file_of all));
        stack = ap (λ r. r.stack) (room_is empty_image (map file_of all));
        activations = ap (λ r. r.activations) (room_is empty_image (map file_of all));
        operands = ap (λ r. r.operands) (room_is empty_image (map file_of all));
        heap_few = few;
      }

      pub all_stand : (behind : List ℤ) → AllStand (setting behind) bs
      all_stand behind = S.stand bs more (subst AreEntered e l) (setting behind) (record { program = p; image = ap (λ bs. image_for (map file_of bs)) e; has = ap S.values p })

  -- IN THE IMAGE OF ALL, AND IN THE IMAGE OF THE FIRST ALONE

  module _ (all : List Build) (l : AreEntered all) (bs more : List Build) (P : Program) (e : all ≡ bs ++ more) (p : P ≡ program_of bs) where
    abbrev pub whole : bs ≡ bs ++ []
    whole = sym (append-nil bs)

    abbrev pub large : List ℤ → Setting
    large behind = setting all l bs more P e p behind

    abbrev pub small : List ℤ → Setting
    small behind = setting bs (front all l bs more P e p) bs [] P whole p behind

    abbrev old : Image
    old = image_for (map file_of bs)

    types_before : (image_for (map file_of all)).types ≡ old.types ++ new_types old (map file_of more)
    types_before =
        ap (λ bs. (image_for (map file_of bs)).types) e
        ∙ ap (λ fs. (image_of empty_image fs).types) (map_both file_of bs more)
        ∙ ap (λ (i : Image). i.types) (image_both (map file_of bs) (map file_of more) empty_image)
        ∙ types_are old (map file_of more)

    tags_same : (q : QName) (line : List QName) (fs : Fields) → record_in P q ≡ RecordForm (q ∷ line) fs → type_number (image_for (map file_of all)).types q ≡ type_number old.types q
    tags_same q line fs is =
        let t = (all_stand bs (front all l bs more P e p) bs [] P whole p []).image.types q line (is ∙ ap (RecordForm (q ∷ line)) (sym (ap fields_of is))) in
        ap (λ ts. type_number ts q) types_before ∙ same_number old.types (new_types old (map file_of more)) q t.descriptor t.found

    to_small : (behind : List ℤ) → Carries (large behind) (small behind)
    to_small behind = record { types = λ q t e. refl; has = λ s q h. h; numbers = λ s q h. refl; tags = λ q line fs is. sym (tags_same q line fs is) }

    to_large : (behind : List ℤ) → Carries (small behind) (large behind)
    to_large behind = record { types = λ q t e. refl; has = λ s q h. h; numbers = λ s q h. refl; tags = λ q line fs is. tags_same q line fs is }

    stay_small : (behind : List ℤ) (g : List ℕ → List ℕ → Value) (ms : List Module) → AllByRecursion (Stays (large behind) (small behind) g g) ms
    stay_small behind g [] = tt
    stay_small behind g (m ∷ ms) = (record { held = refl; texts = refl; values = refl }, stay_small behind g ms)

    stay_large : (behind : List ℤ) (g : List ℕ → List ℕ → Value) (ms : List Module) → AllByRecursion (Stays (small behind) (large behind) g g) ms
    stay_large behind g [] = tt
    stay_large behind g (m ∷ ms) = (record { held = refl; texts = refl; values = refl }, stay_large behind g ms)

    pub stands_small : (behind : List ℤ) (s : State) (w : World) → StandIn (large behind) [] s w → StandIn (small behind) [] s w
    stands_small behind s w st = stands_on (large behind) (small behind) s s.store.globals w (record { carries = to_small behind; more = []; program = sym (append-nil P); heap = refl; behind = refl; stay = stay_small behind s.store.globals P; fine = tt }) st

    pub stands_large : (behind : List ℤ) (s : State) (w : World) → StandIn (small behind) [] s w → StandIn (large behind) [] s w
    stands_large behind s w st = stands_on (small behind) (large behind) s s.store.globals w (record { carries = to_large behind; more = []; program = sym (append-nil P); heap = refl; behind = refl; stay = stay_large behind s.store.globals P; fine = tt }) st
