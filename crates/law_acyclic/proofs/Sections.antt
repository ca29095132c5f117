-- The parameters of headings and of procedure types: the types that they have, and those that they make.
use Rattle.std.proofs.Common.{◌≡◌, ⊎_elim, inl, inr, refl, sym, ap, subst, ◌∙◌, ℕ, ◌+◌, Bool, true, false, List, [], ◌∷◌, ◌++◌, map as each, length, Option, Some, None, append-nil}
use Rattle.std.specs.List.{AllByRecursion}
use Rattle.ob_tree.specs.declared.pos.Pos.{Pos}
use Rattle.ob_tree.specs.declared.names.QName.{QName}
use Rattle.ob_tree.specs.declared.ident.Ident.{Ident}
use Rattle.ob_tree.specs.declared.ident.Mark.{Mark}
use Rattle.ob_tree.specs.declared.ident.Mark.TheVariants as mark
use Rattle.ob_tree.specs.declared.ident.Qualident.{Qualident}
use Rattle.ob_types.specs.declared.types.Mode.{Mode}
use Rattle.ob_types.specs.declared.types.TypeRef.{TypeRef}
use Rattle.ob_types.specs.declared.desc.Desc.{Desc}
use Rattle.ob_types.specs.declared.desc.Desc.TheVariants as desc
use Rattle.ob_types.specs.declared.typed.TypedType.{TypedType}
use Rattle.ob_rules.specs.declared.notes.Later.{Later}
use Rattle.ob_rules.specs.declared.entity.Known.{Known}
use Rattle.ob_rules.specs.declared.broken.Rule.TheVariants as rule
use Rattle.ob_rules.specs.Judged.{Judged, Notes, if_sound, paired, sound, both, made, is_quiet, if_quiet, behind_quiet}
use Rattle.ob_rules.specs.Shapes.{is_structured}
use Rattle.ob_rules.specs.Names.{Around, map_of, type_named, found_in_scope, is_out}
use Rattle.ob_rules.specs.Types.{Typing, typed_as, with_types, section_name, first_of, Parameters, WrittenSection, WrittenParameters, Sections, mode_of, twice_if, parameter_as, knows, declare_all, parameters_of, parameters_joined, behind_section, with_made, section, sections, result_fits, result_of, with_result, parameters_in, inner, procedure_type}
use Rattle.law_typing_forms.specs.Said.{IsOneOf}
use Rattle.law_typing.specs.Makes.{IfThere}
use Rattle.law_names_procedures.proofs.Judges.{Has}
use Rattle.law_names_procedures.proofs.Knowing.{AreKnown}
use Rattle.law_names_procedures.proofs.Typings.{declare_all_is, quiet_is}
use Rattle.law_body_context.specs.Knows.{EntityStands}
use Rattle.law_body_context.proofs.Lists.{one_left, one_right, one_joined, there_of}
use Rattle.law_body_context.proofs.Standing.{Lies, lies_front, grows_as, grows_front, stands_grown}
use Rattle.law_acyclic.proofs.Tells.{Tell, then_tell, made_tell, both_tell, unless_tell}
use Rattle.law_acyclic.proofs.Firm.{SignatureFirm, signature_more, AnyValue, S, Seen, seen_more, AreFirm, FirmAt, are_more}
use Rattle.law_acyclic.proofs.Typings.{Tells, AreTold, are_told_more, Place, IsTyping, IsFirm, with_place, seen_at, name_tell, typed_firm}
use Rattle.law_lists.proofs.Lists.{all_both, back_empty, front_empty}

if_twice : (o : Option Known) (at : Pos) → (twice_if o at).later ≡ []
if_twice None at = refl
if_twice (Some k) at = refl

declares_nil : (u : Around) (m : Mode) (o : Option Typing) (xs : List Ident) → (declare_all u m o xs).notes.later ≡ []
declares_nil u m o [] = refl
declares_nil u m o (x ∷ xs) = ap (λ ls. ls ++ (declare_all (knows u x (parameter_as u m x o)) m o xs).notes.later) (if_twice (found_in_scope u x.name) x.pos) ∙ declares_nil (knows u x (parameter_as u m x o)) m o xs

later_is : (a b c : List Later) → a ≡ [] → ((a ++ (b ++ [])) ++ c) ++ [] ≡ b ++ c
later_is a b c e = append-nil ((a ++ (b ++ [])) ++ c) ∙ ap (λ l. l ++ c) (ap (λ l. l ++ (b ++ [])) e ∙ append-nil b)

module _ (unit : List ℕ) (shown : QName → Option Desc) (out : is_out unit ≡ false) (path : List ℕ) (names : List (List ℕ)) where
  abbrev T : List TypedType → TypeRef → Type 0
  T own t = S unit shown own t

  abbrev pub P : List TypedType → TypeRef → Type 0
  P own t = Seen unit shown (IsOneOf own) is_structured false t

  abbrev pub E : List TypedType → Known → Type 0
  E own k = EntityStands AnyValue unit shown own k.what

  abbrev IsPlace : Around → Type 0
  IsPlace u = Place unit shown out path names u

  abbrev pub AreFirmSections : List WrittenSection → Type 0
  AreFirmSections ss = AllByRecursion (λ s. IsFirm unit shown out path names s.node) ss

  pub record AreParameters (own : List TypedType) (ls : List Later) (p : Parameters) : Type 0 where
    pub made : AreFirm unit shown path names ls (p.made ++ own) p.made
    pub told : AreTold p.made ls
    pub signature : SignatureFirm (T (p.made ++ own)) (P (p.made ++ own)) p.signature

  -- where nothing is broken there are parameters, and what is known behind them
  abbrev pub TellSections : Around → Sections → Type 0
  TellSections u s = s.found.notes.broken ≡ [] → Has (AreParameters u.own s.found.notes.later) s.found.node × AreKnown s.known

  pub known_place : (u : Around) → IsPlace u → (ks : List Known) → AreKnown ks → AllByRecursion (E u.own) ks → IsPlace (record u { known = ks })
  known_place u k ks h e = record { knows = record { unit_is = k.knows.unit_is; shown_is = k.knows.shown_is; own = k.knows.own; known = e }; path_is = k.path_is; names_is = k.names_is; sound = h; aliases = k.aliases }

  declared_known : (own : List TypedType) (m : Mode) (t : Typing) (xs : List Ident) (u : Around) → AreKnown u.known → AllByRecursion (E own) u.known → AreKnown (declare_all u m (Some t) xs).around.known × AllByRecursion (E own) (declare_all u m (Some t) xs).around.known
  declared_known own m t [] u h e = (h, e)
  declared_known own m t (x ∷ xs) u h e = declared_known own m t xs (knows u x (parameter_as u m x (Some t))) (tt, h) (tt, e)

  of_section : (own : List TypedType) (m : Mode) (t : TypeRef) → T own t → (xs : List Ident) → AllByRecursion (λ (p : Mode × TypeRef). T own p.1) (each (λ x. (m, t)) xs)
  of_section own m t h [] = tt
  of_section own m t h (x ∷ xs) = (h, of_section own m t h xs)

  one_section : (u : Around) (m : Mode) (xs : List Ident) (t : Typing) (name : List ℕ) (q : Option Qualident) (ls : List Later) → IsTyping unit shown out path names u name q true ls t → AreParameters u.own ls (parameters_of u m xs t)
  one_section u m xs t name q ls h = record { made = h.made; told = h.told; signature = (of_section (t.made ++ u.own) m t.of h.of xs, tt) }

  front_lies : (a b own : List TypedType) → Lies (a ++ own) ((a ++ b) ++ own)
  front_lies a b own t i = ⊎_elim (λ k. one_left (a ++ b) own t (one_left a b t k)) (λ k. one_right (a ++ b) own t k) (one_joined a own t i)

  back_lies : (a b own : List TypedType) → Lies (b ++ (a ++ own)) ((a ++ b) ++ own)
  back_lies a b own t i = ⊎_elim (λ k. one_left (a ++ b) own t (one_right a b t k)) (λ k. front_lies a b own t k) (one_joined b (a ++ own) t i)

  signature_lies : (own more : List TypedType) → Lies own more → (s : _) → SignatureFirm (T own) (P own) s → SignatureFirm (T more) (P more) s
  signature_lies own more f s h =
      signature_more (T own) (P own) (P own) (P own) (P own) (T more) (P more) (P more) (P more) (P more) (λ t. stands_grown unit shown own more (grows_as own more f) t) (λ t k. seen_more unit shown (IsOneOf own) (IsOneOf more) f is_structured false t) (λ t k. seen_more unit shown (IsOneOf own) (IsOneOf more) f is_structured false t) (λ t k. seen_more unit shown (IsOneOf own) (IsOneOf more) f is_structured false t) s h

  joined_sections : (own : List TypedType) (ls ms : List Later) (a b : Parameters) → AreParameters own ls a → a.signature.result ≡ None → AreParameters (a.made ++ own) ms b → AreParameters own (ls ++ ms) (parameters_joined a b)
  joined_sections own ls ms a b h n k =
      let more = (a.made ++ b.made) ++ own in
      let f = front_lies a.made b.made own in
      let g = back_lies a.made b.made own in
      record {
        made = all_both (FirmAt unit shown path names (ls ++ ms) more) a.made b.made (are_more unit shown path names ls (ls ++ ms) (λ l i. one_left ls ms l i) (a.made ++ own) more f a.made h.made) (are_more unit shown path names ms (ls ++ ms) (λ l i. one_right ls ms l i) (b.made ++ (a.made ++ own)) more g b.made k.made);
        told = all_both (Tells (a.made ++ b.made)) ls ms (are_told_more a.made (a.made ++ b.made) (λ t i. one_left a.made b.made t i) ls h.told) (are_told_more b.made (a.made ++ b.made) (λ t i. one_right a.made b.made t i) ms k.told);
        signature = (all_both (λ (p : Mode × TypeRef). T more p.1) a.signature.params b.signature.params (signature_lies (a.made ++ own) more f a.signature h.signature).0 (signature_lies (b.made ++ (a.made ++ own)) more g b.signature k.signature).0, tt);
      }

  abbrev joined_node : Parameters → Option Parameters → Option Parameters
  joined_node a o = (if_sound (paired (Some a) o) (λ q. sound (parameters_joined q.0 q.1))).node

  joined_has : (own : List TypedType) (ls ms ns : List Later) (a : Parameters) → ns ≡ ls ++ ms → AreParameters own ls a → a.signature.result ≡ None → (o : Option Parameters) → Has (AreParameters (a.made ++ own) ms) o → Has (AreParameters own (ns ++ (if_sound (paired (Some a) o) (λ q. sound (parameters_joined q.0 q.1))).notes.later)) (joined_node a o)
  joined_has own ls ms ns a e h n None k = absurd k
  joined_has own ls ms ns a e h n (Some b) k = subst (λ l. AreParameters own l (parameters_joined a b)) (sym (append-nil ns ∙ e)) (joined_sections own ls ms a b h n k)

  module _ (m : Mode) (xs : List Ident) (rest : Around → Sections) (good : (v : Around) → IsPlace v → TellSections v (rest v)) (u : Around) (k : IsPlace u) (name : List ℕ) (q : Option Qualident) where
    section_by : (o : Option Typing) (ns : Notes) → (ns.broken ≡ [] → Has (IsTyping unit shown out path names u name q true ns.later) o) → TellSections u (behind_section (made (parameters_of u m xs) (record { node = o; notes = ns })) (declare_all u m o xs).notes (rest (with_made (record u { known = (declare_all u m o xs).around.known }) o)))
    section_by None ns h = λ e.
        let d = (declare_all u m None xs).notes in
        let j : Judged Typing = record { node = None; notes = ns } in
        let mine = behind_quiet d (made (parameters_of u m xs) j) in
        let r = (rest (record u { known = (declare_all u m None xs).around.known })).found in
        let two : mine.notes.broken ++ r.notes.broken ≡ [] = front_empty (mine.notes.broken ++ r.notes.broken) _ e in
        absurd (h (front_empty ns.broken [] (back_empty d.broken (ns.broken ++ []) (front_empty mine.notes.broken r.notes.broken two))))
    section_by (Some t) ns h = λ e.
        let d = (declare_all u m (Some t) xs).notes in
        let j : Judged Typing = record { node = Some t; notes = ns } in
        let mine = behind_quiet d (made (parameters_of u m xs) j) in
        let w : Around = record u { known = (declare_all u m (Some t) xs).around.known } in
        let r = (rest (with_types w t.made)).found in
        let two : mine.notes.broken ++ r.notes.broken ≡ [] = front_empty (mine.notes.broken ++ r.notes.broken) _ e in
        let i = h (front_empty ns.broken [] (back_empty d.broken (ns.broken ++ []) (front_empty mine.notes.broken r.notes.broken two))) in
        let dk = declared_known u.own m t xs u k.sound k.knows.known in
        let kw = known_place u k w.known dk.0 dk.1 in
        let kv = with_place unit shown out path names w kw ns.later t.made i.made in
        let g = good (with_types w t.made) kv (back_empty mine.notes.broken r.notes.broken two) in
        let ls : (d.later ++ (ns.later ++ [])) ++ r.notes.later ≡ ns.later ++ r.notes.later = sym (append-nil ((d.later ++ (ns.later ++ [])) ++ r.notes.later)) ∙ later_is d.later ns.later r.notes.later (declares_nil u m (Some t) xs) in
        let quiet : is_quiet d.broken ≡ true = quiet_is d.broken (front_empty d.broken (ns.broken ++ []) (front_empty mine.notes.broken r.notes.broken two)) in
        let both_of : Bool → Judged Parameters = λ b. if_sound (paired (if_quiet b (Some (parameters_of u m xs t))) r.node) (λ q. sound (parameters_joined q.0 q.1)) in (
          subst (λ b. Has (AreParameters u.own (((d.later ++ (ns.later ++ [])) ++ r.notes.later) ++ (both_of b).notes.later)) (both_of b).node) (sym quiet)
              (joined_has u.own ns.later r.notes.later ((d.later ++ (ns.later ++ [])) ++ r.notes.later) (parameters_of u m xs t) ls (one_section u m xs t name q ns.later i) refl r.node g.0),
          g.1,
        )

    section_firm : (t : Judged Typing) → Tell (IsTyping unit shown out path names u name q true) t → TellSections u (section u m xs t rest)
    section_firm t h =
        subst (λ v. TellSections u (behind_section (made (parameters_of u m xs) t) (declare_all u m t.node xs).notes (rest (with_made v t.node)))) (sym (declare_all_is xs u m t.node))
        (section_by t.node t.notes h)

  sections_firm : (ss : List WrittenSection) → AreFirmSections ss → (u : Around) → IsPlace u → (name : List ℕ) (i : ℕ) → TellSections u (sections u name i ss)
  sections_firm [] g u k name i = λ e. (record { made = tt; told = tt; signature = (tt, tt) }, k.sound)
  sections_firm (s ∷ ss) g u k name i =
      section_firm (mode_of s.is_var) s.names (λ v. sections v name (i + length s.names) ss) (λ v l. sections_firm ss g.1 v l name (i + length s.names)) u k (section_name name i) s.node.name (s.node.typing u (section_name name i) mark.Hidden true) (g.0 u k (section_name name i) mark.Hidden true)

  -- ---- what is known behind sections, besides what was, is of no type

  any_entity : (own : List TypedType) (u : Around) (m : Mode) (x : Ident) (o : Option Typing) → EntityStands AnyValue unit shown own (parameter_as u m x o)
  any_entity own u m x None = tt
  any_entity own u m x (Some t) = tt

  declared_entities : (own : List TypedType) (m : Mode) (o : Option Typing) (xs : List Ident) (u : Around) → AllByRecursion (E own) u.known → AllByRecursion (E own) (declare_all u m o xs).around.known
  declared_entities own m o [] u e = e
  declared_entities own m o (x ∷ xs) u e = declared_entities own m o xs (knows u x (parameter_as u m x o)) (any_entity own u m x o, e)

  made_entities : (own : List TypedType) (u : Around) (o : Option Typing) → AllByRecursion (E own) u.known → AllByRecursion (E own) (with_made u o).known
  made_entities own u None e = e
  made_entities own u (Some t) e = e

  pub sections_entities : (own : List TypedType) (ss : List WrittenSection) (u : Around) (name : List ℕ) (i : ℕ) → AllByRecursion (E own) u.known → AllByRecursion (E own) (sections u name i ss).known
  sections_entities own [] u name i e = e
  sections_entities own (s ∷ ss) u name i e =
      let t = s.node.typing u (section_name name i) mark.Hidden true in
      let a = (declare_all u (mode_of s.is_var) t.node s.names).around in
      sections_entities own ss (with_made a t.node) name (i + length s.names) (made_entities own a t.node (declared_entities own (mode_of s.is_var) t.node s.names u e))

  -- ---- the result

  abbrev IsResult : Around → List Later → Option TypeRef → Type 0
  IsResult u ls o = (ls ≡ []) × IfThere (λ t. T u.own t × P u.own t) o

  result_tell : (u : Around) → IsPlace u → (r : Option Qualident) → Tell (IsResult u) (result_of u r)
  result_tell u k None = λ e. (refl, tt)
  result_tell u k (Some q) =
      then_tell (λ ls t. (ls ≡ []) × T u.own t) (IsResult u) (type_named u q) (result_fits u (first_of q)) (name_tell unit shown out path names u k q)
      (λ t h. unless_tell (λ ms. IsResult u ((type_named u q).notes.later ++ ms)) (is_structured (map_of u) t) rule.StructuredResult (first_of q) (Some t) (λ e. (ap (λ ls. ls ++ []) h.0, (h.1, seen_at unit shown out path names u k t h.1 is_structured false e))))

  with_result_is : (own : List TypedType) (ls : List Later) (p : Parameters) (o : Option TypeRef) → AreParameters own ls p → IfThere (λ t. T own t × P own t) o → AreParameters own ls (with_result p o)
  with_result_is own ls p o h r = record {
    made = h.made;
    told = h.told;
    signature = (h.signature.0, there_of (λ t. T own t × P own t) (λ t. T (p.made ++ own) t × P (p.made ++ own) t) o (λ t k. (stands_grown unit shown own (p.made ++ own) (grows_front p.made own) t k.0, seen_more unit shown (IsOneOf own) (IsOneOf (p.made ++ own)) (lies_front p.made own) is_structured false t k.1)) r);
  }

  pub parameters_firm : (u : Around) → IsPlace u → (name : List ℕ) (p : WrittenParameters) → AreFirmSections p.sections → TellSections u (parameters_in u name p)
  parameters_firm u k name p g = λ e.
      let s = sections u name 1 p.sections in
      let v : Around = record u { known = s.known } in
      let r = result_of v p.result in
      let two : s.found.notes.broken ++ r.notes.broken ≡ [] = front_empty (s.found.notes.broken ++ r.notes.broken) _ e in
      let h = sections_firm p.sections g u k name 1 (front_empty s.found.notes.broken r.notes.broken two) in
      let kv : IsPlace v = known_place u k s.known h.1 (sections_entities u.own p.sections u name 1 k.knows.known) in (
        made_tell (λ ls (q : Parameters × Option TypeRef). AreParameters u.own ls (with_result q.0 q.1)) (AreParameters u.own) (λ q. with_result q.0 q.1) (both s.found r)
            (both_tell (AreParameters u.own) (IsResult v) (λ ls (q : Parameters × Option TypeRef). AreParameters u.own ls (with_result q.0 q.1)) s.found r (λ n. h.0) (result_tell v kv p.result)
            (λ x o i j. with_result_is u.own (s.found.notes.later ++ r.notes.later) x o (subst (λ ls. AreParameters u.own ls x) (sym (ap (λ l. s.found.notes.later ++ l) j.0 ∙ append-nil s.found.notes.later)) i) j.1))
            (λ q i. i) e,
        h.1,
      )

  pub inner_place : (u : Around) → IsPlace u → IsPlace (inner u)
  inner_place u k = record { knows = record { unit_is = k.knows.unit_is; shown_is = k.knows.shown_is; own = k.knows.own; known = k.knows.known }; path_is = k.path_is; names_is = k.names_is; sound = k.sound; aliases = k.aliases }

  -- a procedure type
  pub procedure_firm : (u : Around) → IsPlace u → (name : List ℕ) (m : Mark) (open_ok : Bool) (p : WrittenParameters) → AreFirmSections p.sections → Tell (IsTyping unit shown out path names u name None open_ok) (procedure_type u name m p)
  procedure_firm u k name m open_ok p g =
      let j = (parameters_in (inner u) name p).found in
      made_tell (AreParameters u.own) (IsTyping unit shown out path names u name None open_ok) (λ q. typed_as u name (desc.ProcType m q.signature) q.made) j (λ e. (parameters_firm (inner u) (inner_place u k) name p g e).0)
      (λ q h.
      let t : TypedType = record { name = name; desc = desc.ProcType m q.signature } in
      typed_firm unit shown out path names u k name open_ok (desc.ProcType m q.signature) q.made j.notes.later j.notes.later (inl refl) (λ l i. i) h.signature h.made (are_told_more q.made (t ∷ q.made) (λ s i. inr i) j.notes.later h.told))
