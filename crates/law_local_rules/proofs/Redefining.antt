-- What the bound procedures of a module redefine is among what counts for it.
use Rattle.std.proofs.Common.{◌≡◌, ℕ, List, [], ◌∷◌, ◌++◌, Bool, true, false, cond, Option, Some, None, map as each, refl, sym, ap, ◌∙◌, subst}
use Rattle.std.specs.Prelude.{◌||◌, bytes_eq}
use Rattle.std.specs.List.{AllByRecursion, find, flat_map}
use Rattle.std.proofs.lemmas.Bool.{false≢true}
use Rattle.std.proofs.lemmas.Slice.Eq.{bytes_eq-Decides}
use Rattle.ob_tree.specs.declared.names.QName.{QName}
use Rattle.ob_types.specs.declared.desc.Desc.{Desc}
use Rattle.ob_types.specs.declared.desc.Desc.TheVariants as desc
use Rattle.ob_types.specs.declared.desc.Method.{Method}
use Rattle.ob_types.specs.declared.desc.RecordDesc.{RecordDesc}
use Rattle.ob_types.specs.declared.typed.TypedType.{TypedType}
use Rattle.ob_types.specs.declared.typed.TypedProcedure.{TypedProcedure}
use Rattle.ob_types.specs.declared.typed.TypedModule.{TypedModule}
use Rattle.ob_types.specs.Maps.{listed, signature_types}
use Rattle.ob_types.specs.TypedSyntax.{Module}
use Rattle.ob_types.specs.TypedView.{stmts_view, procedure_view, module_view}
use Rattle.ob_layout.specs.LaidOut.{type_named, base_of, words_in, procedures_in, laid_record, laid_desc, laid_type}
use Rattle.ob_layout.specs.Members.{method_in}
use Rattle.ob_env.specs.Faces.{Face, described}
use Rattle.ob_env.specs.Shown.{shown}
use Rattle.ob_uses_roots.specs.Counts.{shapes, counts_of_all, counts_of_variable, counts_of_parameter, counts_of_method, counts_of_binding, counts_of_procedure}
use Rattle.ob_rules.specs.Shapes.{AMethod, member, same_name}
use Rattle.ob_rules.specs.Names.{Around, map_of, own_desc, type_desc, out_string}
use Rattle.ob_rules.specs.Types.{Parameters, with_types}
use Rattle.ob_rules.specs.Headings.{BoundAs, Head, Heads, Binding, head_of, name_twice, declared_head, known_behind, types_of}
use Rattle.ob_rules.specs.Declarations.{Contents, Written_procedure, around_body, self_parameters, binding_of, bound_to, typed_procedure, procedure_judged, procedures_judged, with_bound, described as described_by, all_described}
use Rattle.law_names_procedures.proofs.Judges.{Has}
use Rattle.law_local_judged.specs.Agreement.{DescIn, Agree}
use Rattle.law_local_judged.specs.Said.{CountsIn, SignatureIn}
use Rattle.law_local_judged.proofs.Mentioned.{counts_left, counts_right, shapes_in}
use Rattle.law_local_judged.proofs.Tests.{member_same}
use Rattle.law_local_files.specs.Laws.{Text, view}
use Rattle.law_local_methods.specs.Laws.{with_own, RedefinesIn}
use Rattle.law_local_module.proofs.Heads.{heads_of}
use Rattle.law_local_module.proofs.Bound.{IsJudged}
use Rattle.law_local_rules.specs.Laws.{CountsFor}
use Rattle.law_local_rules.proofs.Members.{HasMethod, member_at, found_name, found_numbered, found_unnumbered, method_there, shown_of}
use Rattle.law_local_rules.proofs.Types.{has_name, described_name, Anywhere, anywhere, all_anywhere}
use Rattle.ob_uses.specs.Uses.{near_types}
use Rattle.law_lists.proofs.Lists.{all_back, all_front}

declared_forward : (b : Bool) (d : Head) (u : Around) → (declared_head b d u).forward ≡ d.forward
declared_forward true d u = refl
declared_forward false d u = refl

own_of : (o : Option TypedType) (d : Desc) → own_desc o ≡ Some d → (t : TypedType) × ((o ≡ Some t) × (t.desc ≡ d))
own_of None d e = absurd cc
own_of (Some t) d e = (t, (refl, cc))

-- ---- maps that say the same of each name

any_near : (o : Option Desc) → DescIn Anywhere o
any_near None = tt
any_near (Some d) = all_anywhere (near_types d)

bound_same : (w : Around) (b : Binding) (q : QName) → map_of (with_bound w b) q ≡ with_own w b.own q
bound_same w b q = go (bytes_eq q.«module» w.unit) (same_name q out_string)
  where
    go : (c d : Bool) → type_desc c d (with_bound w b) q ≡ type_desc c d (record w { own = b.own }) q
    go true d = refl
    go false true = refl
    go false false = refl

bound_agrees : (w : Around) (b : Binding) → Agree Anywhere (with_own w b.own) (map_of (with_bound w b))
bound_agrees w b = record { same = λ q h. bound_same w b q; near = λ q h. any_near (with_own w b.own q) }

module _ (faces : List (Face Text)) (t : TypedModule) where
  abbrev M : Module
  M = module_view t

  abbrev V : QName → Option Desc
  V = view faces (module_view t)

  abbrev Q : QName → Type 0
  Q q = CountsFor faces (module_view t) q

  -- ---- what the procedures count

  abbrev Counted : TypedProcedure → Type 0
  Counted p = CountsIn Q (counts_of_procedure V (procedure_view p))

  pub each_counted : (ps : List TypedProcedure) → CountsIn Q (flat_map (counts_of_procedure V) (each procedure_view ps)) → AllByRecursion Counted ps
  each_counted [] h = tt
  each_counted (p ∷ ps) h = (
    counts_left Q (counts_of_procedure V (procedure_view p)) (flat_map (counts_of_procedure V) (each procedure_view ps)) h,
    each_counted ps (counts_right Q (counts_of_procedure V (procedure_view p)) (flat_map (counts_of_procedure V) (each procedure_view ps)) h),
  )

  binding_counts : (p : TypedProcedure) → Counted p → CountsIn Q (counts_of_binding V p.binding)
  binding_counts p h =
      let front = flat_map counts_of_parameter p.parameters ++ shapes (listed p.result) ++ flat_map counts_of_variable p.locals in
      counts_right Q front (counts_of_binding V p.binding) (counts_left Q (front ++ counts_of_binding V p.binding) (counts_of_all (stmts_view p.body)) h)

  abbrev BindingCounts : Around → Head → Option BoundAs → Type 0
  BindingCounts U h o = CountsIn Q (counts_of_binding V (bound_to (map_of U) h o))

  typed_counts : (U : Around) (h : Head) (o : Option Parameters) → Has (λ p. Unit {0}) o → (c : Contents) → AllByRecursion Counted (typed_procedure (map_of U) h o c ++ c.procedures) → BindingCounts U h h.bound
  typed_counts U h None k c a = absurd k
  typed_counts U h (Some p) k c a = binding_counts
      (record {
        name = h.path;
        mark = h.mark;
        «pos» = h.at;
        binding = bound_to (map_of U) h h.bound;
        parameters = self_parameters h h.self h.bound ++ p.parameters;
        result = p.signature.result;
        locals = c.variables;
        body = c.body;
      })
      a.0

  judged_counts : (U : Around) (p : Written_procedure) (h : Head) → Has (λ p. Unit {0}) h.parameters → (f : Bool) → f ≡ false → AllByRecursion Counted (procedure_judged U p h f).contents.procedures → BindingCounts U h h.bound
  judged_counts U p h k true e a = absurd (false≢true (sym e))
  judged_counts U p h k false e a = typed_counts U h h.parameters k (p.inside (around_body U h)).contents a

  abbrev pub HeadCounts : Around → Head → Type 0
  HeadCounts U h = h.forward ≡ false → CountsIn Q (counts_of_binding V (bound_to (map_of U) h h.bound))

  pub heads_count : (U : Around) (ps : List Written_procedure) (hs : Heads) → AllByRecursion (λ (h : Head). Has (λ p. Unit {0}) h.parameters) (heads_of ps hs) → AllByRecursion Counted (procedures_judged U ps (heads_of ps hs)).contents.procedures → AllByRecursion (HeadCounts U) (heads_of ps hs)
  unfolding heads_of
  heads_count U [] hs k a = tt
  heads_count U (p ∷ ps) hs k a =
      let d = head_of hs.around p.heading p.forward in
      let v = with_types hs.around (types_of d.parameters) in
      let b = name_twice v hs.before d in
      let h = declared_head b d (known_behind v b d) in
      let next : Heads = record { around = known_behind v b d; before = h ∷ hs.before } in
      let mine = procedure_judged U p h p.forward in
      let rest = procedures_judged U ps (heads_of ps next) in
      (λ f. judged_counts U p h k.0 p.forward (sym (declared_forward b d (known_behind v b d)) ∙ f) (all_front Counted mine.contents.procedures rest.contents.procedures a), heads_count U ps next k.1 (all_back Counted mine.contents.procedures rest.contents.procedures a))

  -- ---- the view

  -- the first type of that name is laid out as this one
  pub record LaidOf (x : List ℕ) (s : TypedType) (us : List TypedType) : Type 0 where
    pub q : QName
    pub is : type_named us x ≡ Some (laid_desc (words_in (described faces) M) (procedures_in (described faces) M) q s.desc)

  abbrev laid : TypedType → TypedType
  laid s = laid_type (described faces) M s

  named_laid : (bound : List TypedType) (x : List ℕ) (y : TypedType) → find (λ b. bytes_eq b.name x) bound ≡ Some y → (ts : List TypedType) → has_name ts x ≡ true → LaidOf x y (each laid (all_described bound ts))
  named_laid bound x y e [] h = absurd (false≢true h)
  named_laid bound x y e (s ∷ ts) h = go (bytes_eq x s.name) refl (λ i. named_laid bound x y e ts i) h
    where
      o : Option TypedType
      o = find (λ b. bytes_eq b.name s.name) bound

      go : (b : Bool) → bytes_eq x s.name ≡ b → (has_name ts x ≡ true → LaidOf x y (each laid (all_described bound ts))) → (b || has_name ts x) ≡ true → LaidOf x y (each laid (all_described bound (s ∷ ts)))
      go true i r h =
          let rest = each laid (all_described bound ts) in
          let same : find (λ b. bytes_eq b.name s.name) bound ≡ Some y = ap (λ z. find (λ (b : TypedType). bytes_eq b.name z) bound) (sym ((bytes_eq-Decides x s.name).0 i)) ∙ e in
          record {
            q = record { «module» = M.name; object = s.name };
            is = ap (λ o. type_named (laid (described_by o s) ∷ rest) x) same ∙ ap (λ b. cond b (Some (laid (record { name = s.name; desc = y.desc })).desc) (type_named rest x)) i;
          }
      go false i r h =
          let k = r h in
          let d = described_by (find (λ b. bytes_eq b.name s.name) bound) s in
          let rest = each laid (all_described bound ts) in
          record { q = k.q; is = ap (λ b. cond b (Some (laid d).desc) (type_named rest x)) (ap (bytes_eq x) (described_name (find (λ b. bytes_eq b.name s.name) bound) s) ∙ i) ∙ k.is }

  -- the types of the module around are laid out in it
  abbrev pub AreLaid : List TypedType → Type 0
  AreLaid own = (x : List ℕ) (y : TypedType) → find (λ s. bytes_eq s.name x) own ≡ Some y → LaidOf x y (each laid t.types)

  pub laid_types : (bound ts own : List TypedType) → t.types ≡ all_described bound ts → ((x : List ℕ) (y : TypedType) → find (λ s. bytes_eq s.name x) own ≡ Some y → (find (λ b. bytes_eq b.name x) bound ≡ Some y) × (has_name ts x ≡ true)) → AreLaid own
  laid_types bound ts own e f = λ x y i. let k = f x y i in subst (λ us. LaidOf x y (each laid us)) (sym e) (named_laid bound x y k.0 ts k.1)

  record Seen (owner : QName) (x : List ℕ) (m : Method) : Type 0 where
    k : Method
    is : method_in V owner x ≡ Some k
    same : k.signature ≡ m.signature

  module _ (w : Around) (own : List TypedType) (unit : w.unit ≡ t.name) (shows : w.shown ≡ shown faces) (are : AreLaid own) where
    seen_own : (owner : QName) (x : List ℕ) (m : Method) (r : RecordDesc) → bytes_eq owner.«module» t.name ≡ true → find (λ k. bytes_eq k.name x) r.methods ≡ Some m → (y : TypedType) → y.desc ≡ desc.Record r → LaidOf owner.object y (each laid t.types) → Seen owner x m
    seen_own owner x m r i f y d l =
        let words = words_in (described faces) M in
        let procedures = procedures_in (described faces) M in
        let e : V owner ≡ Some (laid_desc words procedures l.q (desc.Record r)) =
        ap (λ b. cond b (type_named (each laid t.types) owner.object) (described faces owner)) i ∙ l.is ∙ ap (λ z. Some (laid_desc words procedures l.q z)) d in
        let n = found_numbered x (base_of procedures r.base) r.methods m f in
        record { k = n.k; is = method_there V owner x (laid_record words procedures l.q r) n.k e n.is; same = n.same }

    seen_other : (owner : QName) (x : List ℕ) (m : Method) (r : RecordDesc) → bytes_eq owner.«module» t.name ≡ false → find (λ k. bytes_eq k.name x) r.methods ≡ Some m → shown faces owner ≡ Some (desc.Record r) → Seen owner x m
    seen_other owner x m r i f e =
        let s = shown_of (described faces owner) r e in
        let v : V owner ≡ Some (desc.Record s.of) = ap (λ b. cond b (type_named (each laid t.types) owner.object) (described faces owner)) i ∙ s.is in
        let n = found_unnumbered x s.of.methods m (ap (find (λ k. bytes_eq k.name x)) (sym s.methods) ∙ f) in
        record { k = n.k; is = method_there V owner x s.of n.k v n.is; same = n.same }

    seen : (owner : QName) (x : List ℕ) (m : Method) → HasMethod (with_own w own) owner x m → Seen owner x m
    seen owner x m h = go (bytes_eq owner.«module» w.unit) refl (same_name owner out_string) h.is
      where
        go : (b : Bool) → bytes_eq owner.«module» w.unit ≡ b → (c : Bool) → type_desc b c (record w { own = own }) owner ≡ Some (desc.Record h.of) → Seen owner x m
        go true i c e =
            let y = own_of (find (λ s. bytes_eq s.name owner.object) own) (desc.Record h.of) e in
            seen_own owner x m h.of (ap (bytes_eq owner.«module») (sym unit) ∙ i) h.found y.0 y.1.1 (are owner.object y.0 y.1.0)
        go false i true e = absurd cc
        go false i false e = seen_other owner x m h.of (ap (bytes_eq owner.«module») (sym unit) ∙ i) h.found (ap (λ g. g owner) (sym shows) ∙ e)

  -- ---- what is redefined

  module _ (w : Around) (b : Binding) (unit : w.unit ≡ t.name) (shows : w.shown ≡ shown faces) (are : AreLaid b.own) where
    redefines : (h : Head) (o : Option BoundAs) → BindingCounts (with_bound w b) h o → RedefinesIn Q (with_own w b.own) h o
    redefines h None c = tt
    redefines h (Some a) c = λ owner m e.
        let k = member_at (with_own w b.own) 201 a.owner owner h.name m e in
        let s = seen w b.own unit shows are owner h.name m k in
        let there : member (map_of (with_bound w b)) a.owner h.name ≡ Some (AMethod owner m) = member_same Anywhere (with_own w b.own) (map_of (with_bound w b)) (bound_agrees w b) a.owner h.name (anywhere a.owner) ∙ e in
        let d = subst (λ o. CountsIn Q (counts_of_binding V (binding_of a.owner a o))) there c in
        let is : method_in V owner m.name ≡ Some s.k = ap (method_in V owner) (found_name h.name k.of.methods m k.found) ∙ s.is in
        let n = shapes_in Q (signature_types s.k.signature) (subst (λ o. CountsIn Q (counts_of_method o)) is d) in
        subst (SignatureIn Q) s.same n

    pub all_redefine : (hs : List Head) → AllByRecursion IsJudged hs → AllByRecursion (HeadCounts (with_bound w b)) hs → AllByRecursion (λ (h : Head). RedefinesIn Q (with_own w b.own) h h.bound) hs
    all_redefine [] j c = tt
    all_redefine (h ∷ hs) j c = (redefines h h.bound (c.0 j.0.0), all_redefine hs j.1 c.1)
