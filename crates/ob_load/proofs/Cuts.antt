-- The image of files, cut to the first modules, is the image of the first files.
use Rattle.std.proofs.Common.{◌≡◌, ℕ, zero, suc, ◌+◌, ◌≤◌, Bool, true, false, List, [], ◌∷◌, ◌++◌, length, take, drop, Option, Some, None, refl, sym, ap, subst, ◌∙◌, arith}
use Rattle.std.specs.Prelude.{if◌then◌else◌, slice_get, ◌||◌}
use Rattle.std.proofs.Math.Seq.{take-length}
use Rattle.std.proofs.lemmas.List.{length-append, take-append-le, take-append-drop, length-take-le}
use Rattle.ob_tdesc.specs.declared.descriptor.Descriptor.{Descriptor}
use Rattle.ob_instr.specs.Image.{Image, ModuleImage, Room}
use Rattle.ob_obj.specs.declared.parts.RecordType.{RecordType}
use Rattle.ob_obj.specs.declared.file.ObjFile.{ObjFile}
use Rattle.ob_obj.specs.Images.{same, module_from, type_links, descriptor_of, with_types, module_of, entered, image_of, global_words, IsEnterable, AreEnterable}
use Rattle.ob_machine_image.specs.Cut.{has, types_of, first_of, cut_to}
use Rattle.ob_machine_image.proofs.Whole.{entered_whole}
use Rattle.ob_link.specs.Members.{empty_image}
use Rattle.ob_link.proofs.Made.{made_loaded, alike_length}

-- A MODULE THAT IS NEW

one_none : (b more : Bool) (n : ℕ) (o : Option ℕ) → (o ≡ None → more ≡ false) → (if b then Some n else o) ≡ None → (b || more) ≡ false
one_none true more n o f e = absurd cc
one_none false more n o f e = f e

not_there : (n : ℕ) (ms : List ModuleImage) (name : List ℕ) → module_from n ms name ≡ None → has ms name ≡ false
not_there n [] name e = refl
not_there n (u ∷ ms) name e = one_none (same name u.name) (has ms name) n (module_from (suc n) ms name) (not_there (suc n) ms name) e

fewer : (b a c : Bool) → (a ≡ false → c ≡ false) → (b || a) ≡ false → (b || c) ≡ false
fewer true a c f e = e
fewer false a c f e = f e

not_taken : (k : ℕ) (ms : List ModuleImage) (name : List ℕ) → has ms name ≡ false → has (take k ms) name ≡ false
not_taken zero ms name h = refl
not_taken (suc k) [] name h = refl
not_taken (suc k) (u ∷ ms) name h = fewer (same name u.name) (has ms name) (has (take k ms) name) (not_taken k ms name) h

not_one : (ms : List ModuleImage) (types : List Descriptor) (d : Descriptor) → has ms d.«module» ≡ false → types_of ms (types ++ d ∷ []) ≡ types_of ms types
not_one ms [] d h = ap (λ b. if b then d ∷ [] else []) h
not_one ms (x ∷ types) d h = ap (λ l. if has ms x.«module» then x ∷ l else []) (not_one ms types d h)

none_own : (ms : List ModuleImage) (name : List ℕ) (first : ℕ) (links : List ℕ) (m : ℕ) (types : List Descriptor) (own : List RecordType) → has ms name ≡ false → types_of ms (with_types name first links m types own) ≡ types_of ms types
none_own ms name first links m types [] h = refl
none_own ms name first links m types (t ∷ own) h =
    let d = descriptor_of name first links types m t in
    none_own ms name first links m (types ++ d ∷ []) own h ∙ not_one ms types d h

-- WHAT STAYS OF AN IMAGE

-- the one image begins as the other
record Keeps (old img : Image) : Type 0 where
  within : length old.modules ≤ length img.modules
  modules : take (length old.modules) img.modules ≡ old.modules
  types : types_of old.modules img.types ≡ old.types
  next : first_of (slice_get img.modules (length old.modules)) img.next ≡ old.next
  room : img.room ≡ old.room

none_behind : (ms : List ModuleImage) (next : ℕ) → first_of (slice_get ms (length ms)) next ≡ next
none_behind [] next = refl
none_behind (u ∷ ms) next = none_behind ms next

keeps_itself : (img : Image) → types_of img.modules img.types ≡ img.types → Keeps img img
keeps_itself img whole = record { within = omega arith; modules = take-length img.modules; types = whole; next = none_behind img.modules img.next; room = refl }

first_more : (ms : List ModuleImage) (u : ModuleImage) (k next more old : ℕ) → k ≤ length ms → u.first ≡ next → first_of (slice_get ms k) next ≡ old → first_of (slice_get (ms ++ u ∷ []) k) more ≡ old
first_more [] u zero next more old le f e = f ∙ e
first_more [] u (suc k) next more old le f e = absurd (omega arith)
first_more (v ∷ ms) u zero next more old le f e = e
first_more (v ∷ ms) u (suc k) next more old le f e = first_more ms u k next more old (omega arith) f e

keeps_more : (old img : Image) (f : ObjFile) → Keeps old img → IsEnterable img f → Keeps old (entered img f)
keeps_more old img f k can =
    let u = module_of img f in
    let n = length old.modules in
    let new : has old.modules f.head.«module» ≡ false = subst (λ ms. has ms f.head.«module» ≡ false) k.modules (not_taken n img.modules f.head.«module» (not_there 0 img.modules f.head.«module» can.new)) in
    record {
      within = omega (arith, k.within, length-append img.modules (u ∷ []));
      modules = take-append-le n img.modules (u ∷ []) k.within ∙ k.modules;
      types = none_own old.modules f.head.«module» (length img.types) (type_links img f) (length img.modules) img.types f.body.types new ∙ k.types;
      next = first_more img.modules u n img.next (img.next + global_words f) old.next k.within refl k.next;
      room = k.room;
    }

keeps_all : (fs : List ObjFile) (old img : Image) → Keeps old img → AreEnterable img fs → Keeps old (image_of img fs)
keeps_all [] old img k can = k
keeps_all (f ∷ fs) old img k can = keeps_all fs old (entered img f) (keeps_more old img f k can.0) can.1

same_image : (old : Image) (modules : List ModuleImage) (types : List Descriptor) (next : ℕ) (room : Room) → modules ≡ old.modules → types ≡ old.types → next ≡ old.next → room ≡ old.room → record { modules = modules; types = types; next = next; room = room } ≡ old
same_image old modules types next room e1 e2 e3 e4 = rw (e1, e2, e3, e4) refl

cut_back : (old img : Image) → Keeps old img → cut_to (length old.modules) img ≡ old
cut_back old img k =
    let n = length old.modules in
    same_image old (take n img.modules) (types_of (take n img.modules) img.types) (first_of (slice_get img.modules n) img.next) img.room k.modules (ap (λ ms. types_of ms img.types) k.modules ∙ k.types) k.next k.room

-- IMAGES OF FILES

whole_all : (fs : List ObjFile) (img : Image) → types_of img.modules img.types ≡ img.types → types_of (image_of img fs).modules (image_of img fs).types ≡ (image_of img fs).types
whole_all [] img e = e
whole_all (f ∷ fs) img e = whole_all fs (entered img f) (entered_whole img f e)

pub image_both : (fs gs : List ObjFile) (img : Image) → image_of img (fs ++ gs) ≡ image_of (image_of img fs) gs
image_both [] gs img = refl
image_both (f ∷ fs) gs img = image_both fs gs (entered img f)

pub enter_front : (fs gs : List ObjFile) (img : Image) → AreEnterable img (fs ++ gs) → AreEnterable img fs
enter_front [] gs img e = tt
enter_front (f ∷ fs) gs img e = (e.0, enter_front fs gs (entered img f) e.1)

enter_rest : (fs gs : List ObjFile) (img : Image) → AreEnterable img (fs ++ gs) → AreEnterable (image_of img fs) gs
enter_rest [] gs img e = e
enter_rest (f ∷ fs) gs img e = enter_rest fs gs (entered img f) e.1

pub enter_both : (fs gs : List ObjFile) (img : Image) → AreEnterable img fs → AreEnterable (image_of img fs) gs → AreEnterable img (fs ++ gs)
enter_both [] gs img e h = h
enter_both (f ∷ fs) gs img e h = (e.0, enter_both fs gs (entered img f) e.1 h)

pub enter_taken : (n : ℕ) (fs : List ObjFile) (img : Image) → AreEnterable img fs → AreEnterable img (take n fs)
enter_taken n fs img e = enter_front (take n fs) (drop n fs) img (subst (AreEnterable img) (sym (take-append-drop n fs)) e)

pub cut_so : (n : ℕ) (fs : List ObjFile) → n ≤ length fs → AreEnterable empty_image fs → cut_to n (image_of empty_image fs) ≡ image_of empty_image (take n fs)
cut_so n fs le can =
    let front = take n fs in
    let rest = drop n fs in
    let all : front ++ rest ≡ fs = take-append-drop n fs in
    let can2 = subst (AreEnterable empty_image) (sym all) can in
    let old = image_of empty_image front in
    let made = made_loaded front (enter_front front rest empty_image can2) in
    let k = keeps_all rest old old (keeps_itself old (whole_all front empty_image refl)) (enter_rest front rest empty_image can2) in
    let many : length old.modules ≡ n = alike_length old.modules front made.alike ∙ length-take-le n fs le in
    let whole : image_of empty_image fs ≡ image_of old rest = ap (image_of empty_image) (sym all) ∙ image_both front rest empty_image in
    ap (cut_to n) whole ∙ ap (λ i. cut_to i (image_of old rest)) (sym many) ∙ cut_back old (image_of old rest) k
