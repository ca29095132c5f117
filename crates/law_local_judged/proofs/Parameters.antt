-- Formal parameters as they are written, with other interfaces around.
use Rattle.std.proofs.Common.{◌≡◌, refl, sym, ap, ◌∙◌, subst, ℕ, ◌+◌, List, [], ◌∷◌, ◌++◌, map, length, Option, Some, None, true, Bool, false}
use Rattle.std.specs.List.{AllByRecursion}
use Rattle.ob_tree.specs.declared.names.QName.{QName}
use Rattle.ob_tree.specs.declared.ident.Ident.{Ident}
use Rattle.ob_tree.specs.declared.ident.Mark.{Mark}
use Rattle.ob_tree.specs.declared.ident.Mark.TheVariants as mark
use Rattle.ob_tree.specs.declared.ident.Qualident.{Qualident}
use Rattle.ob_types.specs.declared.types.Mode.{Mode}
use Rattle.ob_types.specs.declared.types.TypeRef.{TypeRef}
use Rattle.ob_types.specs.declared.desc.Desc.{Desc}
use Rattle.ob_types.specs.declared.desc.Desc.TheVariants as desc
use Rattle.ob_types.specs.declared.typed.Variable.TheVariants as variable
use Rattle.ob_types.specs.Maps.{listed, signature_types}
use Rattle.ob_rules.specs.declared.entity.Entity.{Entity}
use Rattle.ob_rules.specs.declared.entity.Entity.TheVariants as entity
use Rattle.ob_rules.specs.declared.entity.Known.{Known}
use Rattle.ob_rules.specs.declared.broken.Rule.TheVariants as rule
use Rattle.ob_rules.specs.Judged.{Judged, sound, both, made, noted, if_sound, ◌▷◌, is_quiet, if_quiet, behind_quiet}
use Rattle.ob_rules.specs.Shapes.{is_structured, passing_of}
use Rattle.ob_rules.specs.Names.{Around, map_of, type_named}
use Rattle.ob_rules.specs.Types.{Typing, typed_as, with_types, section_name, first_of, Parameters, WrittenSection, WrittenParameters, Sections, mode_of, new_name, parameter_as, knows, Named, with_notes, declare_all, parameters_of, parameters_joined, behind_section, with_made, section_named, sections, result_fits, result_of, with_result, parameters_in, inner, procedure_type}
use Rattle.law_local_judged.specs.Agreement.{IsIn, AreIn, DescIn}
use Rattle.law_local_judged.specs.Said.{SaidIn}
use Rattle.law_local_judged.specs.Followed.{beside, EntityIn, TypeIn, Agrees}
use Rattle.law_local_judged.proofs.Tests.{two, is_array_same, is_record_same, passing_same}
use Rattle.law_local_judged.proofs.Following.{said_left, said_right, follows_sound, follows_unless, follows_then, follows_made, made_node, both_node, front_said}
use Rattle.law_local_judged.proofs.Names.{maps_agree, type_named_follows}
use Rattle.law_local_judged.specs.Declared.{TypingIn, OwnIn}
use Rattle.law_local_judged.specs.Headed.{ParametersIn, KnownIn}
use Rattle.law_local_judged.proofs.Typings.{TF, WrittenFollows, agrees_with}
use Rattle.std.specs.Prelude.{◌||◌}
use Rattle.law_lists.proofs.Lists.{all_both, none_some}

made_same : {A B : Type 0} (f g : A → B) (j : Judged A) (x : A) → j.node ≡ Some x → g x ≡ f x → made g j ≡ made f j
made_same {A} {B} f g j x e k = ap (λ o. noted j.notes (if_sound o (λ x. sound (g x)))) e ∙ (ap (λ y. noted j.notes (sound y)) k ∙ sym (ap (λ o. noted j.notes (if_sound o (λ x. sound (f x)))) e))

quiet_node : {A : Type 0} (b : Bool) (o : Option A) (x : A) → if_quiet b o ≡ Some x → o ≡ Some x
quiet_node true o x e = e
quiet_node false o x e = none_some e

module _ (P : QName → Type 0) where
  abbrev ModeIn : Mode × TypeRef → Type 0
  ModeIn x = IsIn P x.1

  params_near : (ks : List (Mode × TypeRef)) (o : Option TypeRef) → AllByRecursion (λ (x : Mode × TypeRef). IsIn P x.1) ks → TypeIn P o → AreIn P (map (λ p. p.1) ks ++ listed o)
  params_near [] None h i = tt
  params_near [] (Some t) h i = (i, tt)
  params_near (x ∷ ks) o h i = (h.0, params_near ks o h.1 i)

  pub signature_near : (p : Parameters) → ParametersIn P p → AreIn P (signature_types p.signature)
  signature_near p h = params_near p.signature.params p.signature.result h.0.0 h.0.1

  pub agrees_known : (u : Around) (s : QName → Option Desc) (ks : List Known) → Agrees P u s → KnownIn P ks → Agrees P (record u { known = ks }) s
  agrees_known u s ks a h = record { same = a.same; near = a.near; out = a.out; own = a.own; known = h; guards = a.guards; receiver = a.receiver; result = a.result }

  pub agrees_inner : (u : Around) (s : QName → Option Desc) → Agrees P u s → Agrees P (inner u) s
  agrees_inner u s a = record { same = a.same; near = a.near; out = a.out; own = a.own; known = a.known; guards = a.guards; receiver = a.receiver; result = a.result }

  -- WHAT SECTIONS COME TO follows, and what is known behind them is the same
  pub record SectionsFollow (x y : Sections) : Type 0 where
    pub found : TF P (ParametersIn P) x.found y.found
    pub known : (p : Parameters) → x.found.node ≡ Some p → SaidIn P x.found.notes → (y.known ≡ x.known) × KnownIn P x.known

  module _ (s : QName → Option Desc) where
    -- ---- names that are declared

    with_passing : (u : Around) → Agrees P u s → (m : Mode) (t : Typing) → TypingIn P t → passing_of (map_of (with_types (beside u s) t.made)) m t.of ≡ passing_of (map_of (with_types u t.made)) m t.of
    with_passing u a m t h = passing_same P (map_of (with_types u t.made)) (map_of (beside (with_types u t.made) s)) (maps_agree P (with_types u t.made) s (agrees_with P u s t.made a h.1)) m t.of h.0

    pub knows_agrees : (u : Around) (x : Ident) (e : Entity) → Agrees P u s → EntityIn P e → Agrees P (knows u x e) s
    knows_agrees u x e a h = agrees_known u s (record { name = x.name; scope = u.scope; what = e } ∷ u.known) a (h, a.known)

    -- names declared in turn: the same, and what stands around agrees
    pub record Declares (u : Around) (n : Named) (k : Named) : Type 0 where
      pub same : k ≡ record { notes = n.notes; around = beside n.around s }
      pub agrees : Agrees P n.around s
      pub unit : n.around.unit ≡ u.unit

    declares : (u : Around) → Agrees P u s → (m : Mode) (t : Typing) → TypingIn P t → (xs : List Ident) → Declares u (declare_all u m (Some t) xs) (declare_all (beside u s) m (Some t) xs)
    declares u a m t h [] = record { same = refl; agrees = a; unit = refl }
    declares u a m t h (x ∷ xs) =
        let e = parameter_as u m x (Some t) in
        let w = knows u x e in
        let k = declares w (knows_agrees u x e a h.0) m t h xs in
        record {
          same = ap (λ p. with_notes (new_name u x) (declare_all (knows (beside u s) x (entity.Variable (variable.Parameter p x.name) t.of)) m (Some t) xs)) (with_passing u a m t h) ∙ ap (with_notes (new_name u x)) k.same;
          agrees = k.agrees;
          unit = k.unit;
        }

    parameters_same : (u : Around) → Agrees P u s → (m : Mode) (xs : List Ident) (t : Typing) → TypingIn P t → parameters_of (beside u s) m xs t ≡ parameters_of u m xs t
    parameters_same u a m xs t h =
        ap (λ p. record { signature = record { params = map (λ x. (m, t.of)) xs; result = None }; parameters = map (λ x. record { name = x.name; passing = p; of = t.of }) xs; made = t.made }) (with_passing u a m t h)

    same_mode : (m : Mode) (t : TypeRef) (xs : List Ident) → IsIn P t → AllByRecursion (λ (x : Mode × TypeRef). IsIn P x.1) (map (λ x. (m, t)) xs)
    same_mode m t [] h = tt
    same_mode m t (x ∷ xs) h = (h, same_mode m t xs h)

    -- ---- sections in turn

    sections_follow : (u : Around) → Agrees P u s → OwnIn P u.unit → (name : List ℕ) (i : ℕ) (ss : List WrittenSection) → AllByRecursion (λ x. WrittenFollows P x.node) ss → SectionsFollow (sections u name i ss) (sections (beside u s) name i ss)
    sections_follow u a own name i [] h = record {
      found = follows_sound P (ParametersIn P) (λ x. Unit {0}) (Unit {0}) (record { signature = record { params = []; result = None }; parameters = []; made = [] }) ((tt, tt), tt) (λ m. tt);
      known = λ p e said. (refl, a.known);
    }
    sections_follow u a own name i (k ∷ ss) h = record {
      found = record { keeps = λ p e said. (by (λ w b o. sections_follow w b o name (i + length k.names) ss h.1) p e said).0.0; same = λ p e said m. (tt, (by (λ w b o. sections_follow w b o name (i + length k.names) ss h.1) p e said).0.1) };
      known = λ p e said. (by (λ w b o. sections_follow w b o name (i + length k.names) ss h.1) p e said).1;
    }
      where
        by : ((w : Around) → Agrees P w s → OwnIn P w.unit → SectionsFollow (sections w name (i + length k.names) ss) (sections (beside w s) name (i + length k.names) ss)) → (p : Parameters) → (sections u name i (k ∷ ss)).found.node ≡ Some p → SaidIn P (sections u name i (k ∷ ss)).found.notes
            → (ParametersIn P p × ((sections (beside u s) name i (k ∷ ss)).found ≡ (sections u name i (k ∷ ss)).found)) × (((sections (beside u s) name i (k ∷ ss)).known ≡ (sections u name i (k ∷ ss)).known) × KnownIn P (sections u name i (k ∷ ss)).known)
        by ihs p e said =
            let v = beside u s in
            let m = mode_of k.is_var in
            let xs = k.names in
            let ty = k.node.typing u (section_name name i) mark.Hidden true in
            let ty2 = k.node.typing v (section_name name i) mark.Hidden true in
            let next : Around → Sections = λ w. sections w name (i + length k.names) ss in
            let body : Around → Option Typing → Sections = λ w o. behind_section (made (parameters_of w m xs) ty) (declare_all w m o xs).notes (next (with_made (declare_all w m o xs).around o)) in
            let front = behind_quiet (declare_all u m ty.node xs).notes (made (parameters_of u m xs) ty) in
            let rest = next (with_made (declare_all u m ty.node xs).around ty.node) in
            let n = made_node (λ (q : Parameters × Parameters). parameters_joined q.0 q.1) (both front rest.found) p e in
            let q = both_node front rest.found n.0 n.1.0 in
            let t = front_said P (both front rest.found) (λ q. sound (parameters_joined q.0 q.1)) said in
            let said_front = said_right P (declare_all u m ty.node xs).notes (made (parameters_of u m xs) ty).notes (said_left P front.notes rest.found.notes t) in
            let z = made_node (parameters_of u m xs) ty n.0.0 (quiet_node (is_quiet (declare_all u m ty.node xs).notes.broken) (made (parameters_of u m xs) ty).node n.0.0 q.0) in
            let said_ty = front_said P ty (λ x. sound (parameters_of u m xs x)) said_front in
            let f = h.0 u s a own (section_name name i) mark.Hidden true in
            let tied = f.keeps z.0 z.1.0 said_ty in
            let same = (f.same z.0 z.1.0 said_ty tt).1 in
            let d = declares u a m z.0 tied xs in
            let w = with_types (declare_all u m (Some z.0) xs).around z.0.made in
            let ih = ihs w (agrees_with P (declare_all u m (Some z.0) xs).around s z.0.made d.agrees tied.1) (subst (OwnIn P) (sym d.unit) own) in
            let rest_is : rest ≡ next w = ap (λ o. next (with_made (declare_all u m o xs).around o)) z.1.0 in
            let node_is : (next w).found.node ≡ Some n.0.1 = sym (ap (λ (r : Sections). r.found.node) rest_is) ∙ q.1 in
            let said_rest = subst (λ (r : Sections). SaidIn P r.found.notes) rest_is (said_right P front.notes rest.found.notes t) in
            let known = ih.known n.0.1 node_is said_rest in
            let tied_rest = ih.found.keeps n.0.1 node_is said_rest in
            let found_rest = (ih.found.same n.0.1 node_is said_rest tt).1 in
            let first_is : parameters_of u m xs z.0 ≡ n.0.0 = z.1.1 in
            let moved_to : sections v name i (k ∷ ss) ≡ behind_section (made (parameters_of u m xs) ty) (declare_all u m (Some z.0) xs).notes (next (beside w s)) =
            ap (λ (j : Judged Typing). section_named v m xs j (declare_all v m j.node xs) next) same
            ∙ (ap (λ o. body v o) z.1.0
            ∙ (ap (λ (n : Named). behind_section (made (parameters_of v m xs) ty) n.notes (next (with_made n.around (Some z.0)))) d.same
            ∙ ap (λ j. behind_section j (declare_all u m (Some z.0) xs).notes (next (beside w s))) (made_same (parameters_of u m xs) (parameters_of v m xs) ty z.0 z.1.0 (parameters_same u a m xs z.0 tied)))) in
            let stays : sections u name i (k ∷ ss) ≡ behind_section (made (parameters_of u m xs) ty) (declare_all u m (Some z.0) xs).notes (next w) = ap (λ o. body u o) z.1.0 in
            let joined_in : ParametersIn P (parameters_joined (parameters_of u m xs z.0) n.0.1) = ((all_both (λ (x : Mode × TypeRef). IsIn P x.1) (map (λ x. (m, z.0.of)) xs) n.0.1.signature.params (same_mode m z.0.of xs tied.0) tied_rest.0.0, tt), all_both (λ t. DescIn P (Some t.desc)) z.0.made n.0.1.made tied.1 tied_rest.1) in (
              (
                subst (ParametersIn P) (ap (λ y. parameters_joined y n.0.1) first_is ∙ n.1.1) joined_in,
                ap (λ (r : Sections). r.found) moved_to
                    ∙ (ap (λ j. both (behind_quiet (declare_all u m (Some z.0) xs).notes (made (parameters_of u m xs) ty)) j ▷ λ q. sound (parameters_joined q.0 q.1)) found_rest ∙ sym (ap (λ (r : Sections). r.found) stays)),
              ),
              (ap (λ (r : Sections). r.known) moved_to ∙ (known.0 ∙ sym (ap (λ (r : Sections). r.known) stays)), subst (λ (r : Sections). KnownIn P r.known) (sym stays) known.1),
            )

    result_follows : (u : Around) → Agrees P u s → (o : Option Qualident) → TF P (TypeIn P) (result_of u o) (result_of (beside u s) o)
    result_follows u a None = follows_sound P (TypeIn P) (λ x. Unit {0}) (Unit {0}) None tt (λ m. tt)
    result_follows u a (Some q) =
        let maps = maps_agree P u s a in
        follows_then P (IsIn P) (λ t. Unit {0}) (TypeIn P) (λ t. Unit {0}) (Unit {0}) (type_named u q) (type_named (beside u s) q) (result_fits u (first_of q)) (result_fits (beside u s) (first_of q)) (type_named_follows P u s a q)
        (λ t h. follows_unless P (TypeIn P) (λ t. Unit {0}) (Unit {0}) (is_structured (map_of u) t) (is_structured (map_of (beside u s)) t) rule.StructuredResult (first_of q) (Some t) h (λ m. tt)
        (λ r. two (λ x y. x || y) (is_array_same P (map_of u) (map_of (beside u s)) maps t h) (is_record_same P (map_of u) (map_of (beside u s)) maps t h)))

    pub parameters_follow : (u : Around) → Agrees P u s → OwnIn P u.unit → (name : List ℕ) (p : WrittenParameters) → AllByRecursion (λ x. WrittenFollows P x.node) p.sections → SectionsFollow (parameters_in u name p) (parameters_in (beside u s) name p)
    parameters_follow u a own name p h = record {
      found = record { keeps = λ q e said. (by q e said).0.0; same = λ q e said m. (tt, (by q e said).0.1) };
      known = λ q e said. (by q e said).1;
    }
      where
        by : (q : Parameters) → (parameters_in u name p).found.node ≡ Some q → SaidIn P (parameters_in u name p).found.notes
            → (ParametersIn P q × ((parameters_in (beside u s) name p).found ≡ (parameters_in u name p).found)) × (((parameters_in (beside u s) name p).known ≡ (parameters_in u name p).known) × KnownIn P (parameters_in u name p).known)
        by q e said =
            let x = sections u name 1 p.sections in
            let y = sections (beside u s) name 1 p.sections in
            let f = sections_follow u a own name 1 p.sections h in
            let r = result_of (record u { known = x.known }) p.result in
            let n = made_node (λ (z : Parameters × Option TypeRef). with_result z.0 z.1) (both x.found r) q e in
            let z = both_node x.found r n.0 n.1.0 in
            let t = front_said P (both x.found r) (λ z. sound (with_result z.0 z.1)) said in
            let said_x = said_left P x.found.notes r.notes t in
            let known = f.known n.0.0 z.0 said_x in
            let g = result_follows (record u { known = x.known }) (agrees_known u s x.known a known.1) p.result in
            let said_r = said_right P x.found.notes r.notes t in
            let tied = f.found.keeps n.0.0 z.0 said_x in (
              (
                subst (ParametersIn P) n.1.1 ((tied.0.0, g.keeps n.0.1 z.1 said_r), tied.1),
                ap (λ ks. both y.found (result_of (record (beside u s) { known = ks }) p.result) ▷ λ z. sound (with_result z.0 z.1)) known.0
                    ∙ two (λ i j. both i j ▷ λ z. sound (with_result z.0 z.1)) (f.found.same n.0.0 z.0 said_x tt).1 (g.same n.0.1 z.1 said_r tt).1,
              ),
              known,
            )

    pub procedure_follows : (u : Around) → Agrees P u s → OwnIn P u.unit → (name : List ℕ) (m : Mark) (p : WrittenParameters) → AllByRecursion (λ x. WrittenFollows P x.node) p.sections → TF P (TypingIn P) (procedure_type u name m p) (procedure_type (beside u s) name m p)
    procedure_follows u a own name m p h =
        follows_made P (ParametersIn P) (λ x. Unit {0}) (TypingIn P) (λ x. Unit {0}) (Unit {0}) (λ q. typed_as u name (desc.ProcType m q.signature) q.made) (parameters_in (inner u) name p).found (parameters_in (inner (beside u s)) name p).found
        (parameters_follow (inner u) (agrees_inner u s a) own name p h).found (λ q t. (own name, (signature_near q t, t.1))) (λ q t n. tt)
