-- What a module mentions, and what is shown of it, is among what counts for it.
use Rattle.std.proofs.Common.{◌≡◌, ℕ, List, [], ◌∷◌, ◌++◌, Bool, true, false, cond, Option, Some, None, map as each, refl, sym, ap, ◌∙◌, subst, inl, inr}
use Rattle.std.specs.Prelude.{bytes_eq}
use Rattle.std.specs.List.{AllByRecursion, flat_map}
use Rattle.std.specs.Option.{option_map}
use Rattle.std.proofs.lemmas.Slice.Eq.{bytes_eq-Decides}
use Rattle.ob_format.specs.Format.{◌>>=◌}
use Rattle.ob_tree.specs.declared.names.QName.{QName}
use Rattle.ob_types.specs.declared.types.TypeRef.{TypeRef}
use Rattle.ob_types.specs.declared.types.TypeRef.TheVariants as ref
use Rattle.ob_types.specs.declared.desc.Desc.{Desc}
use Rattle.ob_types.specs.declared.desc.Desc.TheVariants as desc
use Rattle.ob_types.specs.declared.typed.TypedModule.{TypedModule}
use Rattle.ob_types.specs.TypedSyntax.{Module}
use Rattle.ob_types.specs.TypedView.{stmts_view, procedure_view, module_view}
use Rattle.ob_layout.specs.LaidOut.{is_own, type_named, laid_type}
use Rattle.ob_env.specs.Faces.{Face, described, face_named, object_named}
use Rattle.ob_env.specs.Shown.{blank, shown}
use Rattle.ob_uses_roots.specs.Counts.{counts_of_all, counts_of_type, counts_of_variable, counts_of_procedure, counts_of_mentioned, counts_of_module}
use Rattle.ob_uses_roots.specs.Noted.{names_of, shape_starts}
use Rattle.ob_uses.specs.declared.way.Way.TheVariants as way
use Rattle.ob_uses.specs.Uses.{near_types}
use Rattle.ob_uses.specs.Closed.{is_among, of_found}
use Rattle.ob_uses.specs.Ways.{desc_leads}
use Rattle.ob_uses.specs.Reaching.{first, onward}
use Rattle.ob_uses.proofs.Searching.{itself, left_of, in_back}
use Rattle.law_local_judged.specs.Agreement.{AreIn, DescIn}
use Rattle.law_local_judged.specs.Said.{CountsIn, ModuleIn}
use Rattle.law_local_judged.proofs.Mentioned.{counts_left, counts_right}
use Rattle.law_local_judged.proofs.Counted.{starts_in, module_in}
use Rattle.law_local_files.specs.Laws.{Text, HaveNoOut, over, view}
use Rattle.law_local_files.proofs.Agreed.{out_none}
use Rattle.law_local_module.specs.Laws.{ShowSame}
use Rattle.law_local_rules.specs.Laws.{CountsFor, ShowAlike}

-- ---- names in lists

all_among : (P : QName → Type 0) (qs : List QName) → ((q : QName) → is_among qs q ≡ true → P q) → AllByRecursion P qs
all_among P [] h = tt
all_among P (q ∷ qs) h = (h q (left_of _ _ (itself q)), all_among P qs (λ p i. h p (in_back (q ∷ []) qs p i)))

named_in : (P : QName → Type 0) (ts : List TypeRef) → AllByRecursion P (names_of ts) → AreIn P ts
named_in P [] h = tt
named_in P (ref.Basic b ∷ ts) h = (tt, named_in P ts h)
named_in P (ref.Named q ∷ ts) h = (h.0, named_in P ts h.1)

blank_near : (d : Desc) → near_types (blank d) ≡ near_types d
blank_near (desc.Record r) = refl
blank_near (desc.Const v) = refl
blank_near (desc.Var m t) = refl
blank_near (desc.Proc s) = refl
blank_near (desc.Alias m t) = refl
blank_near (desc.Array m l t) = refl
blank_near (desc.OpenArray m t) = refl
blank_near (desc.Pointer m t) = refl
blank_near (desc.ProcType m s) = refl

-- no interface of that name is there
pub not_there : (fs : List (Face Text)) (m : List ℕ) → AllByRecursion (λ f. bytes_eq f.«module» m ≡ false) fs → face_named fs m ≡ None
not_there [] m h = refl
not_there (f ∷ fs) m h = go (bytes_eq m f.«module») refl (not_there fs m h.1)
  where
    go : (b : Bool) → bytes_eq m f.«module» ≡ b → face_named fs m ≡ None → cond b (Some f) (face_named fs m) ≡ None
    go true e n = let never : true ≡ false = sym ((bytes_eq-Decides f.«module» m).1 (sym ((bytes_eq-Decides m f.«module»).0 e))) ∙ h.0 in absurd cc
    go false e n = n

module _ (faces : List (Face Text)) (t : TypedModule) where
  abbrev M : Module
  M = module_view t

  abbrev V : QName → Option Desc
  V = view faces (module_view t)

  -- what counts
  abbrev pub P : QName → Type 0
  P q = CountsFor faces (module_view t) q

  -- the module as it is laid out
  abbrev laid : TypedModule
  laid = record t { types = each (laid_type (described faces) (module_view t)) t.types }

  pub counted : CountsIn P (counts_of_module V (module_view laid))
  counted = starts_in P (counts_of_module V (module_view laid)) (all_among P (names_of (shape_starts (counts_of_module V (module_view laid)))) (λ q i. inl (first i)))

  -- WHAT IT MENTIONS
  pub mentions : ModuleIn P t
  mentions = let m = module_in P V laid counted in record { objects = m.objects; types = m.types; lengths = m.lengths; bodies = m.bodies; body = m.body }

  -- what its procedures count
  pub procedures_count : CountsIn P (flat_map (counts_of_procedure V) (each procedure_view t.procedures))
  procedures_count =
      let v = module_view laid in
      let front = counts_of_mentioned v ++ flat_map (counts_of_type v) v.types ++ flat_map counts_of_variable v.variables in
      let procedures = flat_map (counts_of_procedure V) (each procedure_view t.procedures) in
      let body = counts_of_all (stmts_view t.body) in
      counts_right P front procedures (counts_left P (front ++ procedures) body counted)

  module _ (none : face_named faces t.name ≡ None) where
    own_none : (q : QName) → is_own (module_view t) q ≡ true → shown faces q ≡ None
    own_none q own =
        let n : face_named faces q.«module» ≡ None = ap (face_named faces) ((bytes_eq-Decides q.«module» t.name).0 own) ∙ none in
        ap (λ o. option_map blank (o >>= λ (f : Face Text). object_named f.objects q.object)) n

    near_in : (q : QName) → P q → DescIn P (shown faces q)
    near_in q (inr own) = subst (DescIn P) (sym (own_none q own)) tt
    near_in q (inl near) = by (is_own (module_view t) q) refl
      where
        from : (d : Desc) → V q ≡ Some d → AreIn P (near_types d)
        from d i = named_in P (near_types d) (all_among P (names_of (near_types d)) (λ p k. inl (onward near (subst (λ o. is_among (of_found (desc_leads way.Near t.name q) o) p ≡ true) (sym i) k))))

        at : (o : Option Desc) → (V q ≡ o) → DescIn P (option_map blank o)
        at None i = tt
        at (Some d) i = subst (AreIn P) (sym (blank_near d)) (from d i)

        by : (b : Bool) → is_own (module_view t) q ≡ b → DescIn P (shown faces q)
        by true own = subst (DescIn P) (sym (own_none q own)) tt
        by false own = at (described faces q) (ap (λ b. cond b (type_named (over faces (module_view t)).types q.object) (described faces q)) own)

    -- WHAT IS SHOWN
    pub shows : (others : List (Face Text)) → HaveNoOut faces → HaveNoOut others → ShowAlike faces others (module_view t) → ShowSame P (shown faces) (shown others)
    shows others here there alike = record {
      same = λ q k. alike q k;
      near = near_in;
      out = λ q e. ap (option_map blank) (out_none others there q e ∙ sym (out_none faces here q e));
    }
