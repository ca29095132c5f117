-- The image of files: where what is known of the files says what is there, files can be entered behind others.
use Rattle.std.proofs.Common.{◌≡◌, ℕ, zero, suc, ◌+◌, ◌*◌, ◌≤◌, Bool, true, false, List, [], ◌∷◌, ◌++◌, length, map, Option, Some, None, refl, sym, ap, subst, ◌∙◌, arith, append_assoc}
use Rattle.std.specs.Prelude.{if◌then◌else◌, slice_get, bytes_eq, ◌||◌, ◌&&◌, IsSome, nat_eq, not}
use Rattle.std.specs.Option.{option_map, option_or}
use Rattle.std.specs.List.{AllByRecursion}
use Rattle.std.proofs.lemmas.List.{length-append, length-map, append-nil}
use Rattle.std.proofs.lemmas.Bool.{false≢true, and_parts, and_from, not-true, eqb-true}
use Rattle.std.proofs.lemmas.Map.Text.{is_eq-slice_cmp}
use Rattle.ob_tree.specs.declared.names.QName.{QName}
use Rattle.ob_tree.specs.declared.print.Print.{Print}
use Rattle.ob_tree.specs.declared.proc_ref.ProcRef.{ProcRef}
use Rattle.ob_tdesc.specs.declared.descriptor.Descriptor.{Descriptor}
use Rattle.ob_instr.specs.declared.procedure.Procedure.{Procedure}
use Rattle.ob_instr.specs.Image.{ModuleImage, Image}
use Rattle.ob_instr.specs.Rows.{procedure_of}
use Rattle.ob_obj.specs.declared.parts.Command.{Command}
use Rattle.ob_obj.specs.declared.parts.Link.{Link}
use Rattle.ob_obj.specs.declared.parts.Variable.{Variable}
use Rattle.ob_obj.specs.declared.parts.RecordType.{RecordType}
use Rattle.ob_obj.specs.declared.file.ObjFile.{ObjFile}
use Rattle.ob_obj.specs.Grammar.{file}
use Rattle.ob_obj.specs.Images.{same, named, module_from, module_at, variables_in, commands_in, linked_variable, linked_procedure, linked_type, ref_of, type_from, type_links, descriptor_of, with_types, module_of, entered, image_of, global_words, IsEnterable, AreEnterable}
use Rattle.ob_link.specs.declared.exported.Exported.{Exported}
use Rattle.ob_link.specs.Index.{place_from}
use Rattle.ob_link.specs.Walk.{or_first, first_of}
use Rattle.ob_link.specs.Plan as plan
use Rattle.ob_link.specs.Plan.{Refusal, is_there, absent, too_many}
use Rattle.ob_link.specs.Files.{asks, has_variable, linked, unless, is_plain}
use Rattle.ob_link.specs.Members as m
use Rattle.ob_link.specs.Members.{Known, member_of, member_named, procedure_named, empty_image}
use Rattle.ob_link.specs.Judging.{use_break, variable_in, procedure_in, type_in, missing_variable, missing_procedure, missing_type, missing, breaks, words_of, command_of, command_in, command_ref, ref_with}
use Rattle.ob_link.specs.Contract.{AreLoaded, CanStart, IsStart}
use Rattle.ob_link.specs.Walking.{Stand}
use Rattle.ob_link.proofs.Fits.{few_types}
use Rattle.ob_link.proofs.Places.{no_member, member_at, member_or}
use Rattle.ob_link.proofs.Bridges.{map_both, all_known}
use Rattle.ob_link.proofs.Steps.{few_more}

-- MODULES OF FILES

-- what a module has of a file
pub record IsOf (u : ModuleImage) (f : ObjFile) : Type 0 where
  pub name : u.name ≡ f.head.«module»
  pub code : u.code ≡ f.body.code
  pub procedures : u.procedures ≡ f.body.procedures
  pub variables : u.variables ≡ map (λ v. (v.name, u.first + v.place)) f.globals.variables
  pub commands : u.commands ≡ map (λ c. (c.name, c.procedure)) f.body.commands

abbrev pub Alike : List ModuleImage → List ObjFile → Type 0
Alike [] [] = Unit {0}
Alike [] (f ∷ fs) = ⊥
Alike (u ∷ us) [] = ⊥
Alike (u ∷ us) (f ∷ fs) = IsOf u f × Alike us fs

abbrev pub Both : Option ModuleImage → Option ObjFile → Type 0
Both None None = Unit {0}
Both None (Some f) = ⊥
Both (Some u) None = ⊥
Both (Some u) (Some f) = IsOf u f

pub alike_at : (us : List ModuleImage) (fs : List ObjFile) (i : ℕ) → Alike us fs → Both (slice_get us i) (slice_get fs i)
alike_at [] [] i a = tt
alike_at [] (f ∷ fs) i a = absurd a
alike_at (u ∷ us) [] i a = absurd a
alike_at (u ∷ us) (f ∷ fs) zero a = a.0
alike_at (u ∷ us) (f ∷ fs) (suc i) a = alike_at us fs i a.1

alike_more : (us : List ModuleImage) (fs : List ObjFile) (u : ModuleImage) (f : ObjFile) → Alike us fs → IsOf u f → Alike (us ++ u ∷ []) (fs ++ f ∷ [])
alike_more [] [] u f a is = (is, tt)
alike_more [] (g ∷ fs) u f a is = absurd a
alike_more (v ∷ us) [] u f a is = absurd a
alike_more (v ∷ us) (g ∷ fs) u f a is = (a.0, alike_more us fs u f a.1 is)

pub alike_length : (us : List ModuleImage) (fs : List ObjFile) → Alike us fs → length us ≡ length fs
alike_length [] [] a = refl
alike_length [] (f ∷ fs) a = absurd a
alike_length (u ∷ us) [] a = absurd a
alike_length (u ∷ us) (f ∷ fs) a = ap suc (alike_length us fs a.1)

abbrev names_of : List Known → List (List ℕ)
names_of ks = map (λ k. k.name) ks

number_from : (n : ℕ) (us : List ModuleImage) (fs : List ObjFile) (name : List ℕ) → Alike us fs → module_from n us name ≡ place_from n (names_of (map member_of fs)) name
number_from n [] [] name a = refl
number_from n [] (f ∷ fs) name a = absurd a
number_from n (u ∷ us) [] name a = absurd a
number_from n (u ∷ us) (f ∷ fs) name a = rw (a.0.name, number_from (suc n) us fs name a.1) refl

get_known : (fs : List ObjFile) (i : ℕ) → slice_get (map member_of fs) i ≡ option_map member_of (slice_get fs i)
get_known [] i = refl
get_known (f ∷ fs) zero = refl
get_known (f ∷ fs) (suc i) = get_known fs i

one_there : (b t : Bool) (n : ℕ) (k : Known) (o : Option ℕ) (p : Option Known) → b ≡ t → is_there o ≡ is_there p → is_there (if b then Some n else o) ≡ is_there (if t then Some k else p)
one_there true t n k o p e h = rw (sym e) refl
one_there false t n k o p e h = rw (sym e) h

there_named : (n : ℕ) (ks : List Known) (name : List ℕ) → is_there (place_from n (names_of ks) name) ≡ is_there (member_named name ks)
there_named n [] name = refl
there_named n (k ∷ ks) name = one_there (same name k.name) (bytes_eq name k.name) n k (place_from (suc n) (names_of ks) name) (member_named name ks) (is_eq-slice_cmp name k.name) (there_named (suc n) ks name)

not_there : {A : Type 0} (o : Option A) → is_there o ≡ false → o ≡ None
not_there None e = refl
not_there (Some x) e = absurd cc

-- NAMES THAT ARE THERE

one_named : (b t more : Bool) (x : ℕ) (rest : Option ℕ) → t ≡ b → (more ≡ true → IsSome rest) → (b || more) ≡ true → IsSome (if t then Some x else rest)
one_named b true more x rest e f h = refl
one_named true false more x rest e f h = absurd cc
one_named false false more x rest e f h = f h

variables_named : (a : ℕ) (x : List ℕ) (vs : List Variable) → has_variable x vs ≡ true → IsSome (named (map (λ v. (v.name, a + v.place)) vs) x)
variables_named a x [] h = absurd (false≢true h)
variables_named a x (v ∷ vs) h = one_named (bytes_eq x v.name) (same x v.name) (has_variable x vs) (a + v.place) (named (map (λ w. (w.name, a + w.place)) vs) x) (is_eq-slice_cmp x v.name) (variables_named a x vs) h

one_command : (b t : Bool) (e : Exported) (o : Option Exported) (x : ℕ) (rest : Option ℕ) → t ≡ b → (is_there o ≡ true → IsSome rest) → is_there (if b then Some e else o) ≡ true → IsSome (if t then Some x else rest)
one_command b true e o x rest s f h = refl
one_command true false e o x rest s f h = absurd cc
one_command false false e o x rest s f h = f h

commands_named : (ps : List Procedure) (x : List ℕ) (cs : List Command) → is_there (procedure_named x (map (m.exported ps) cs)) ≡ true → IsSome (named (map (λ c. (c.name, c.procedure)) cs) x)
commands_named ps x [] h = absurd (false≢true h)
commands_named ps x (c ∷ cs) h = one_command (bytes_eq x c.name) (same x c.name) (m.exported ps c) (procedure_named x (map (m.exported ps) cs)) c.procedure (named (map (λ d. (d.name, d.procedure)) cs) x) (is_eq-slice_cmp x c.name) (commands_named ps x cs) h

variable_both : (o : Option ModuleImage) (p : Option ObjFile) (x : List ℕ) → Both o p → variable_in (option_map member_of p) x ≡ true → IsSome (named (variables_in o) x)
variable_both None None x b h = absurd (false≢true h)
variable_both None (Some f) x b h = absurd b
variable_both (Some u) None x b h = absurd b
variable_both (Some u) (Some f) x b h = subst (λ l. IsSome (named l x)) (sym b.variables) (variables_named u.first x f.globals.variables h)

procedure_both : (o : Option ModuleImage) (p : Option ObjFile) (x : List ℕ) → Both o p → procedure_in (option_map member_of p) x ≡ true → IsSome (named (commands_in o) x)
procedure_both None None x b h = absurd (false≢true h)
procedure_both None (Some f) x b h = absurd b
procedure_both (Some u) None x b h = absurd b
procedure_both (Some u) (Some f) x b h = subst (λ l. IsSome (named l x)) (sym b.commands) (commands_named f.body.procedures x f.body.commands h)

-- what stands at the number of a module
at_number : (us : List ModuleImage) (fs : List ObjFile) (name : List ℕ) (p : ℕ) → Alike us fs → place_from 0 (names_of (map member_of fs)) name ≡ Some p → member_named name (map member_of fs) ≡ option_map member_of (slice_get fs p)
at_number us fs name p a e = member_at name (map member_of fs) p e ∙ get_known fs p

variable_links : (us : List ModuleImage) (fs : List ObjFile) (l : Link) → Alike us fs → variable_in (member_named l.«module» (map member_of fs)) l.name ≡ true → IsSome (linked_variable us l)
variable_links us fs l a h = go (place_from 0 (names_of (map member_of fs)) l.«module») refl
  where
    go : (o : Option ℕ) → place_from 0 (names_of (map member_of fs)) l.«module» ≡ o → IsSome (linked_variable us l)
    go None e = absurd (false≢true (sym (ap (λ k. variable_in k l.name) (no_member l.«module» (map member_of fs) e)) ∙ h))
    go (Some p) e =
        let t : variable_in (option_map member_of (slice_get fs p)) l.name ≡ true = sym (ap (λ k. variable_in k l.name) (at_number us fs l.«module» p a e)) ∙ h in
        subst (λ o. IsSome (named (variables_in (module_at us o)) l.name)) (sym (number_from 0 us fs l.«module» a ∙ e)) (variable_both (slice_get us p) (slice_get fs p) l.name (alike_at us fs p a) t)

ref_some : (n : ℕ) (o : Option ℕ) → IsSome o → IsSome (ref_of (Some n) o)
ref_some n None h = absurd (false≢true h)
ref_some n (Some p) h = refl

procedure_links : (us : List ModuleImage) (fs : List ObjFile) (l : Link) → Alike us fs → procedure_in (member_named l.«module» (map member_of fs)) l.name ≡ true → IsSome (linked_procedure us l)
procedure_links us fs l a h = go (place_from 0 (names_of (map member_of fs)) l.«module») refl
  where
    go : (o : Option ℕ) → place_from 0 (names_of (map member_of fs)) l.«module» ≡ o → IsSome (linked_procedure us l)
    go None e = absurd (false≢true (sym (ap (λ k. procedure_in k l.name) (no_member l.«module» (map member_of fs) e)) ∙ h))
    go (Some p) e =
        let t : procedure_in (option_map member_of (slice_get fs p)) l.name ≡ true = sym (ap (λ k. procedure_in k l.name) (at_number us fs l.«module» p a e)) ∙ h in
        subst (λ o. IsSome (ref_of o (named (commands_in (module_at us o)) l.name))) (sym (number_from 0 us fs l.«module» a ∙ e)) (ref_some p (named (commands_in (slice_get us p)) l.name) (procedure_both (slice_get us p) (slice_get fs p) l.name (alike_at us fs p a) t))

-- TYPES

abbrev is_named : QName → Descriptor → Bool
is_named q d = same q.«module» d.«module» && same q.object d.name

type_before : (b : Bool) (n : ℕ) (rest more : Option ℕ) → (IsSome rest → IsSome more) → IsSome (if b then Some n else rest) → IsSome (if b then Some n else more)
type_before true n rest more f h = refl
type_before false n rest more f h = f h

type_more : (n : ℕ) (types : List Descriptor) (d : Descriptor) (q : QName) → IsSome (type_from n types q) → IsSome (type_from n (types ++ d ∷ []) q)
type_more n [] d q h = absurd (false≢true h)
type_more n (x ∷ types) d q h = type_before (is_named q x) n (type_from (suc n) types q) (type_from (suc n) (types ++ d ∷ []) q) (type_more (suc n) types d q) h

type_this : (b : Bool) (n : ℕ) (o : Option ℕ) → b ≡ true → IsSome (if b then Some n else o)
type_this true n o e = refl
type_this false n o e = absurd (false≢true e)

type_or : (b : Bool) (n : ℕ) (more : Option ℕ) → IsSome more → IsSome (if b then Some n else more)
type_or true n more h = refl
type_or false n more h = h

type_last : (n : ℕ) (types : List Descriptor) (d : Descriptor) (q : QName) → is_named q d ≡ true → IsSome (type_from n (types ++ d ∷ []) q)
type_last n [] d q e = type_this (is_named q d) n None e
type_last n (x ∷ types) d q e = type_or (is_named q x) n (type_from (suc n) (types ++ d ∷ []) q) (type_last (suc n) types d q e)

types_keep : (name : List ℕ) (first : ℕ) (links : List ℕ) (k : ℕ) (types : List Descriptor) (own : List RecordType) (q : QName) → IsSome (type_from 0 types q) → IsSome (type_from 0 (with_types name first links k types own) q)
types_keep name first links k types [] q h = h
types_keep name first links k types (t ∷ own) q h =
    let d = descriptor_of name first links types k t in
    types_keep name first links k (types ++ d ∷ []) own q (type_more 0 types d q h)

own_or : (b : Bool) (n : ℕ) (rest : Option ℕ) (G : Type 0) → (b ≡ true → G) → (is_there rest ≡ true → G) → is_there (if b then Some n else rest) ≡ true → G
own_or true n rest G f g h = f refl
own_or false n rest G f g h = g h

own_type : (name : List ℕ) (first : ℕ) (links : List ℕ) (k n : ℕ) (types : List Descriptor) (own : List RecordType) (q : QName) → same q.«module» name ≡ true → is_there (place_from n (map (λ t. t.name) own) q.object) ≡ true → IsSome (type_from 0 (with_types name first links k types own) q)
own_type name first links k n types [] q e h = absurd (false≢true h)
own_type name first links k n types (t ∷ own) q e h =
    let d = descriptor_of name first links types k t in
    own_or (same q.object t.name) n (place_from (suc n) (map (λ x. x.name) own) q.object) (IsSome (type_from 0 (with_types name first links k (types ++ d ∷ []) own) q)) (λ s. types_keep name first links k (types ++ d ∷ []) own q (type_last 0 types d q (and_from (same q.«module» name) (same q.object t.name) e s))) (own_type name first links k (suc n) (types ++ d ∷ []) own q e) h

types_length : (name : List ℕ) (first : ℕ) (links : List ℕ) (k : ℕ) (types : List Descriptor) (own : List RecordType) → length (with_types name first links k types own) ≡ length types + length own
types_length name first links k types [] = omega arith
types_length name first links k types (t ∷ own) =
    let d = descriptor_of name first links types k t in
    let h = types_length name first links k (types ++ d ∷ []) own in
    omega (arith, h, length-append types (d ∷ []))

abbrev Typed : Image → List ObjFile → Type 0
Typed img fs = (q : QName) → type_in (member_named q.«module» (map member_of fs)) q.object ≡ true → IsSome (linked_type img.types q)

typed_more : (img : Image) (fs : List ObjFile) (f : ObjFile) → Typed img fs → Typed (entered img f) (fs ++ f ∷ [])
typed_more img fs f before q h = go (member_named q.«module» (map member_of fs)) refl (bytes_eq q.«module» f.head.«module») refl (sym (ap (λ o. type_in o q.object) (ap (member_named q.«module») (map_both fs (f ∷ [])) ∙ member_or q.«module» (map member_of fs) (member_of f ∷ []))) ∙ h)
  where
    go : (o : Option Known) → member_named q.«module» (map member_of fs) ≡ o → (b : Bool) → bytes_eq q.«module» f.head.«module» ≡ b → type_in (option_or o (if b then Some (member_of f) else None)) q.object ≡ true → IsSome (linked_type (entered img f).types q)
    go (Some k) e b s t = types_keep f.head.«module» (length img.types) (type_links img f) (length img.modules) img.types f.body.types q (before q (ap (λ o. type_in o q.object) e ∙ t))
    go None e true s t = own_type f.head.«module» (length img.types) (type_links img f) (length img.modules) 0 img.types f.body.types q (is_eq-slice_cmp q.«module» f.head.«module» ∙ s) t
    go None e false s t = absurd (false≢true t)

-- IMAGES OF FILES

pub record IsMade (img : Image) (fs : List ObjFile) : Type 0 where
  pub alike : Alike img.modules fs
  pub types : (q : QName) → type_in (member_named q.«module» (map member_of fs)) q.object ≡ true → IsSome (linked_type img.types q)
  pub few_types : length img.types ≤ 1048576 * length fs
  pub next : img.next ≡ suc (plan.words_of asks fs)
  pub room : img.room ≡ m.room

pub made_none : IsMade empty_image []
made_none = record { alike = tt; types = λ q h. absurd (false≢true h); few_types = omega arith; next = refl; room = refl }

words_more : (fs : List ObjFile) (f : ObjFile) → plan.words_of asks (fs ++ f ∷ []) ≡ plan.words_of asks fs + global_words f
words_more [] f = omega arith
words_more (g ∷ fs) f = let h = words_more fs f in omega (arith, h)

pub made_more : (img : Image) (fs : List ObjFile) (f : ObjFile) → IsMade img fs → file.fits f → IsMade (entered img f) (fs ++ f ∷ [])
made_more img fs f made fits = record {
  alike = alike_more img.modules fs (module_of img f) f made.alike (record { name = refl; code = refl; procedures = refl; variables = refl; commands = refl });
  types = typed_more img fs f made.types;
  few_types = omega (arith, made.few_types, few_types f fits, length-append fs (f ∷ []), types_length f.head.«module» (length img.types) (type_links img f) (length img.modules) img.types f.body.types);
  next = omega (arith, made.next, words_more fs f);
  room = made.room;
}

pub made_all : (gs : List ObjFile) (img : Image) (fs : List ObjFile) → IsMade img fs → AllByRecursion (λ f. file.fits f) gs → IsMade (image_of img gs) (fs ++ gs)
made_all [] img fs made all = subst (IsMade img) (sym (append-nil fs)) made
made_all (g ∷ gs) img fs made all = subst (IsMade (image_of (entered img g) gs)) (append_assoc fs (g ∷ []) gs) (made_all gs (entered img g) (fs ++ g ∷ []) (made_more img fs g made all.0) all.1)

pub all_fit : (gs : List ObjFile) (img : Image) → AreEnterable img gs → AllByRecursion (λ f. file.fits f) gs
all_fit [] img e = tt
all_fit (g ∷ gs) img e = (e.0.fits, all_fit gs (entered img g) e.1)

pub made_loaded : (fs : List ObjFile) → AreEnterable empty_image fs → IsMade (image_of empty_image fs) fs
made_loaded fs e = made_all fs empty_image [] made_none (all_fit fs empty_image e)

-- WHAT NOTHING REFUSES

first_none : {R : Type 0} (a b : Option R) → or_first a b ≡ None → a ≡ None
first_none None b e = refl
first_none (Some r) b e = absurd cc

second_none : {R : Type 0} (a b : Option R) → or_first a b ≡ None → b ≡ None
second_none None b e = e
second_none (Some r) b e = absurd cc

absent_none : (client : List ℕ) (o : Option QName) (r : Option (Refusal Print)) → r ≡ absent client o → r ≡ None → o ≡ None
absent_none client None r s e = refl
absent_none client (Some q) r s e = absurd cc

unless_none : (q : QName) (b : Bool) → unless q b ≡ None → b ≡ true
unless_none q true e = refl
unless_none q false e = absurd cc

all_linked : {A : Type 0} (q : A → QName) (test : A → Bool) (P : A → Type 0) (ls : List A) → ((l : A) → test l ≡ true → P l) → first_of (λ l. unless (q l) (test l)) ls ≡ None → AllByRecursion P ls
all_linked q test P [] f e = tt
all_linked q test P (l ∷ ls) f e =
    (f l (unless_none (q l) (test l) (first_none (unless (q l) (test l)) (first_of (λ x. unless (q x) (test x)) ls) e)), all_linked q test P ls f (second_none (unless (q l) (test l)) (first_of (λ x. unless (q x) (test x)) ls) e))

pub enterable_one : (img : Image) (fs : List ObjFile) (f : ObjFile) → IsMade img fs → file.fits f → is_there (member_named f.head.«module» (map member_of fs)) ≡ false → breaks (map member_of fs) f ≡ None → plan.words_of asks fs + global_words f ≤ 262144 → IsEnterable img f
enterable_one img fs f made fits new ok room =
    let ks = map member_of fs in
    let rest = second_none (first_of (use_break ks f.head.«module») f.head.uses) (or_first (absent f.head.«module» (missing ks f.links)) (too_many (length ks + 1))) ok in
    let none : missing ks f.links ≡ None = absent_none f.head.«module» (missing ks f.links) (absent f.head.«module» (missing ks f.links)) refl (first_none (absent f.head.«module» (missing ks f.links)) (too_many (length ks + 1)) rest) in
    let vs = first_of (missing_variable ks) f.links.variables in
    let ps = first_of (missing_procedure ks) f.links.procedures in
    let ts = first_of (missing_type ks) f.links.types in
    let others = second_none vs (or_first ps ts) none in
    let n = alike_length img.modules fs made.alike in
    let globals : img.room.globals ≡ 262144 = ap (λ r. r.globals) made.room in
    record {
      fits = fits;
      new = not_there (module_from 0 img.modules f.head.«module») (ap is_there (number_from 0 img.modules fs f.head.«module» made.alike) ∙ there_named 0 ks f.head.«module» ∙ new);
      variables = all_linked linked (λ l. variable_in (member_named l.«module» ks) l.name) (λ l. IsSome (linked_variable img.modules l)) f.links.variables (λ l h. variable_links img.modules fs l made.alike h) (first_none vs (or_first ps ts) none);
      procedures = all_linked linked (λ l. procedure_in (member_named l.«module» ks) l.name) (λ l. IsSome (linked_procedure img.modules l)) f.links.procedures (λ l h. procedure_links img.modules fs l made.alike h) (first_none ps ts others);
      types = all_linked (λ q. q) (λ q. type_in (member_named q.«module» ks) q.object) (λ q. IsSome (linked_type img.types q)) f.links.types made.types (second_none ps ts others);
      room = omega (arith, made.next, globals, room);
      few = omega (arith, few_more ks f ok, length-map fs member_of, n);
      few_types = omega (arith, made.few_types, few_types f fits, few_more ks f ok, length-map fs member_of);
    }

pub enter_all : (gs : List ObjFile) (img : Image) (fs : List ObjFile) → IsMade img fs → Stand (map member_of fs) gs → plan.words_of asks fs + plan.words_of asks gs ≤ 262144 → AreEnterable img gs
enter_all [] img fs made s room = tt
enter_all (g ∷ gs) img fs made s room =
    let one : plan.words_of asks fs + global_words g ≤ 262144 = omega (arith, room) in
    let more : plan.words_of asks (fs ++ g ∷ []) + plan.words_of asks gs ≤ 262144 = omega (arith, room, words_more fs g) in
    (enterable_one img fs g made s.0 s.1 s.2 one, enter_all gs (entered img g) (fs ++ g ∷ []) (made_more img fs g made s.0) (subst (λ ks. Stand ks gs) (sym (map_both fs (g ∷ []))) s.3) more)

pub stand_fit : (ks : List Known) (gs : List ObjFile) → Stand ks gs → AllByRecursion (λ f. file.fits f) gs
stand_fit ks [] s = tt
stand_fit ks (g ∷ gs) s = (s.0, stand_fit (ks ++ member_of g ∷ []) gs s.3)

-- THE COMMAND

one_plain : (b : Bool) (ps : List Procedure) (k n : ℕ) → (if b then Some k else None) ≡ Some n → is_plain (slice_get ps k) ≡ b → is_plain (slice_get ps n) ≡ true
one_plain true ps k n e h = let s : k ≡ n = cc in subst (λ i. is_plain (slice_get ps i) ≡ true) s h
one_plain false ps k n e h = absurd cc

plain_or : (b : Bool) (ps : List Procedure) (c : Command) (o : Option Exported) (n : ℕ) → (command_of o ≡ Some n → is_plain (slice_get ps n) ≡ true) → command_of (if b then Some (m.exported ps c) else o) ≡ Some n → is_plain (slice_get ps n) ≡ true
plain_or true ps c o n f e = one_plain (is_plain (slice_get ps c.procedure)) ps c.procedure n e refl
plain_or false ps c o n f e = f e

command_plain : (ps : List Procedure) (cs : List Command) (command : List ℕ) (n : ℕ) → command_of (procedure_named command (map (m.exported ps) cs)) ≡ Some n → is_plain (slice_get ps n) ≡ true
command_plain ps [] command n e = absurd cc
command_plain ps (c ∷ cs) command n e = plain_or (bytes_eq command c.name) ps c (procedure_named command (map (m.exported ps) cs)) n (command_plain ps cs command n) e

no_items : {A : Type 0} (xs : List A) → length xs ≡ 0 → xs ≡ []
no_items [] e = refl
no_items (x ∷ xs) e = absurd (omega arith)

pub started : (img : Image) (r : ProcRef) (o : Option Procedure) → procedure_of img r ≡ o → is_plain o ≡ true → IsStart img r
started img r None e h = absurd (false≢true h)
started img r (Some q) e h =
    let p = and_parts (nat_eq (length q.params) 0) (not q.has_result) h in
    record { procedure = q; there = e; params = no_items q.params (eqb-true (length q.params) 0 p.0); no_result = not-true q.has_result p.1 }

ref_is : (o : Option ℕ) (k : ℕ) (r : ProcRef) → ref_with o (Some k) ≡ Some r → (n : ℕ) × (o ≡ Some n) × (r ≡ record { «module» = k; proc = n })
ref_is None k r e = absurd cc
ref_is (Some n) k r e = (n, refl, cc)

command_start : (img : Image) (k : ℕ) (r : ProcRef) (command : List ℕ) (o : Option ModuleImage) (p : Option ObjFile) → Both o p → slice_get img.modules k ≡ o → ref_with (command_in (option_map member_of p) command) (Some k) ≡ Some r → IsStart img r
command_start img k r command None None b at e = absurd cc
command_start img k r command None (Some f) b at e = absurd b
command_start img k r command (Some u) None b at e = absurd b
command_start img k r command (Some u) (Some f) b at e =
    let x = ref_is (command_of (procedure_named command (map (m.exported f.body.procedures) f.body.commands))) k r e in
    let plain = command_plain f.body.procedures f.body.commands command x.0 x.1 in
    let there : procedure_of img (record { «module» = k; proc = x.0 }) ≡ slice_get f.body.procedures x.0 = rw (at, b.procedures) refl in
    subst (IsStart img) (sym x.2) (started img (record { «module» = k; proc = x.0 }) (slice_get f.body.procedures x.0) there plain)

no_module : (o : Option ℕ) (r : ProcRef) → ref_with o None ≡ Some r → ⊥
no_module None r e = absurd cc
no_module (Some p) r e = absurd cc

pub command_starts : (img : Image) (fs : List ObjFile) (name command : List ℕ) (r : ProcRef) → Alike img.modules fs → command_ref (map member_of fs) name command ≡ Some r → IsStart img r
command_starts img fs name command r a h = go (place_from 0 (names_of (map member_of fs)) name) refl
  where
    go : (o : Option ℕ) → place_from 0 (names_of (map member_of fs)) name ≡ o → IsStart img r
    go None e = absurd (no_module (command_in (member_named name (map member_of fs)) command) r (sym (ap (ref_with (command_in (member_named name (map member_of fs)) command)) e) ∙ h))
    go (Some k) e = command_start img k r command (slice_get img.modules k) (slice_get fs k) (alike_at img.modules fs k a) refl (sym (ap (ref_with (command_in (member_named name (map member_of fs)) command)) e ∙ ap (λ o. ref_with (command_in o command) (Some k)) (at_number img.modules fs name k a e)) ∙ h)

-- WHAT IS PLANNED CAN START

pub words_so : (fs : List ObjFile) → words_of (map member_of fs) ≡ plan.words_of asks fs
words_so [] = refl
words_so (f ∷ fs) = ap (λ n. global_words f + n) (words_so fs)

pub can_start : (ks planned : List Known) (fs gs : List ObjFile) (name command : List ℕ) (r : ProcRef) → AreLoaded ks fs → planned ≡ map member_of gs → Stand ks gs → words_of ks + words_of planned ≤ 262144 → command_ref (ks ++ planned) name command ≡ Some r → CanStart (image_of empty_image fs) (record { files = gs; command = r })
can_start ks planned fs gs name command r l e s few is =
    let made = made_loaded fs l.enterable in
    let w : plan.words_of asks fs + plan.words_of asks gs ≤ 262144 = omega (arith, few, ap words_of l.members, ap words_of e, words_so fs, words_so gs) in
    let all : ks ++ planned ≡ map member_of (fs ++ gs) = all_known ks planned fs gs l.members e in
    let whole = made_all gs (image_of empty_image fs) fs made (stand_fit ks gs s) in
    record {
      enterable = enter_all gs (image_of empty_image fs) fs made (subst (λ k. Stand k gs) l.members s) w;
      command = command_starts (image_of (image_of empty_image fs) gs) (fs ++ gs) name command r whole.alike (sym (ap (λ k. command_ref k name command) all) ∙ is);
    }
