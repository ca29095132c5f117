-- Parameters in sections: their types stand, and they are passed as those ask for.
use Rattle.std.proofs.Common.{◌≡◌, ⊎_elim, refl, sym, subst, ℕ, ◌+◌, Bool, true, false, List, [], ◌∷◌, ◌++◌, map, length, Option, Some, None}
use Rattle.std.specs.Prelude.{◌&&◌, ◌||◌, is_some}
use Rattle.std.specs.List.{AllByRecursion}
use Rattle.ob_tree.specs.declared.pos.Pos.{Pos}
use Rattle.ob_tree.specs.declared.names.QName.{QName}
use Rattle.ob_tree.specs.declared.ident.Ident.{Ident}
use Rattle.ob_tree.specs.declared.ident.Mark.{Mark}
use Rattle.ob_tree.specs.declared.ident.Mark.TheVariants as mark
use Rattle.ob_tree.specs.declared.ident.Qualident.{Qualident}
use Rattle.ob_tree.specs.declared.decl.Receiver.{Receiver as RawReceiver}
use Rattle.ob_types.specs.declared.types.Mode.{Mode}
use Rattle.ob_types.specs.declared.types.Mode.TheVariants as mode
use Rattle.ob_types.specs.declared.types.TypeRef.{TypeRef}
use Rattle.ob_types.specs.declared.types.TypeRef.TheVariants as ref
use Rattle.ob_types.specs.declared.desc.Desc.{Desc}
use Rattle.ob_types.specs.declared.desc.Desc.TheVariants as desc
use Rattle.ob_types.specs.declared.desc.Receiver.TheVariants as receiver
use Rattle.ob_types.specs.declared.typed.Passing.TheVariants as passing
use Rattle.ob_types.specs.declared.typed.TypedType.{TypedType}
use Rattle.ob_types.specs.declared.typed.TypedParameter.{TypedParameter}
use Rattle.ob_types.specs.Tests.{target, pointer_of}
use Rattle.ob_rules.specs.declared.entity.Known.{Known}
use Rattle.ob_rules.specs.declared.broken.Rule.TheVariants as rule
use Rattle.ob_rules.specs.Judged.{Judged, if_sound, paired, sound, both, made, unless, ◌▷◌, behind_quiet, is_quiet, if_quiet}
use Rattle.ob_rules.specs.Shapes.{Map, shape, record_at, record_of, record_if, pointed, pointed_record, array_at, open_at, is_structured, by_value, by_var, passing_of}
use Rattle.ob_rules.specs.Names.{Around, map_of, type_named, is_out}
use Rattle.ob_rules.specs.Types.{Typing, Written, with_types, section_name, Parameters, WrittenSection, WrittenParameters, mode_of, parameter_as, knows, declare_all, parameters_of, parameters_joined, with_made, with_result, sections, result_fits, result_of, first_of, parameters_in, inner, is_module_level}
use Rattle.ob_rules.specs.Headings.{BoundAs, is_own, kind_of, received_record, if_own, own_record, silent_base, bound_to, owner_of, owner_if, self_by, knows_receiver}
use Rattle.law_methods_described.proofs.Nodes.{Has, then_has, both_have}
use Rattle.law_body_context.specs.Knows.{Stands, IsDescribed, EntityStands}
use Rattle.law_body_context.proofs.Lists.{one_left, one_right, one_joined, all_of}
use Rattle.law_body_context.proofs.Standing.{Lies, lies_same, lies_then, grows_as}
use Rattle.law_body_context.proofs.Named.{type_named_stands}
use Rattle.law_body_context.proofs.Typings.{IsGood, TypingIs}
use Rattle.law_builds_ruled.specs.ruled_laws.Variables.{AliasStands}
use Rattle.law_builds_ruled.proofs.ruled_laws.Shut.{IsShut, TypingShut}
use Rattle.law_builds_ruled.proofs.ruled_laws.Plain.{Any, AliasesStand, Fine, TypingFine, pairs, no_aliases, aliases_grown, types_fine}
use Rattle.law_lists.proofs.Lists.{IfThere, all_both}

abbrev Anything : TypedType → Type 0
Anything s = Unit {0}

module _ (unit : List ℕ) (shown : QName → Option Desc) (out : is_out unit ≡ false) where
  abbrev pub S : List TypedType → TypeRef → Type 0
  S own t = Stands unit shown own t

  -- what is known stands among these types
  abbrev pub KnownIn : List TypedType → List Known → Type 0
  KnownIn own ks = AllByRecursion (λ k. EntityStands Any unit shown own k.what) ks

  -- whatever types are among
  abbrev pub Fair : Around → Type 0
  Fair u = Fine unit shown out [] Anything (λ s i. tt) u

  abbrev Aliases : List TypedType → List TypedType → Type 0
  Aliases own ts = AliasesStand unit shown out [] Anything (λ s i. tt) own ts

  abbrev Typed : List TypedType → Typing → Type 0
  Typed own t = TypingFine unit shown out [] Anything (λ s i. tt) own t

  pub more_types : (u : Around) → Fair u → (ts : List TypedType) → AllByRecursion (IsDescribed Any) ts → Aliases (ts ++ u.own) ts → Fair (with_types u ts)
  more_types u f ts h a = types_fine unit shown out [] Anything (λ s i. tt) u f ts h a (λ s i. tt)

  -- with more that is known
  pub more_known : (u : Around) → Fair u → (k : Known) → EntityStands Any unit shown u.own k.what → Fair (record u { known = k ∷ u.known })
  more_known u f k h = record { knows = record { unit_is = f.knows.unit_is; shown_is = f.knows.shown_is; own = f.knows.own; known = (h, f.knows.known) }; aliases = f.aliases; lies = f.lies }

  -- ---- a written type

  abbrev pub GoodNode : Written → Type 0
  GoodNode w = (u : Around) → Fair u → (name : List ℕ) (m : Mark) (ok : Bool) → Has (Typed u.own) (w.typing u name m ok)

  pub node_good : (w : Written) → IsGood Any unit shown out w → IsShut w → GoodNode w
  node_good w g s u f name m ok =
      pairs unit shown out [] Anything (λ s i. tt) (TypingIs Any unit shown out u.own) (TypingShut u ok) (Typed u.own)
      (λ t h k. record { made = h.made; of = h.of; aliases = no_aliases unit shown out [] Anything (λ s i. tt) (t.made ++ u.own) t.made k.made }) (w.typing u name m ok).node
      (g u f.knows name m ok) (s u name m ok)

  abbrev pub GoodSections : List WrittenSection → Type 0
  GoodSections ss = AllByRecursion (λ s. GoodNode s.node) ss

  -- ---- parameters

  -- where it is declared, among these types, its type stands, and it is passed as that asks for
  pub record Passed (own : List TypedType) (x : TypedParameter) : Type 0 where
    pub w : Around
    pub fair : Fair w
    pub within : Lies w.own own
    pub stands : S w.own x.of
    pub mode : Mode
    pub is : x.passing ≡ passing_of (map_of w) mode x.of

  pub passed_more : (own more : List TypedType) → Lies own more → (x : TypedParameter) → Passed own x → Passed more x
  passed_more own more l x h = record { w = h.w; fair = h.fair; within = lies_then h.w.own own more h.within l; stands = h.stands; mode = h.mode; is = h.is }

  pub all_more : (own more : List TypedType) → Lies own more → (xs : List TypedParameter) → AllByRecursion (Passed own) xs → AllByRecursion (Passed more) xs
  all_more own more l xs h = all_of (Passed own) (Passed more) xs (passed_more own more l) h

  -- where it is named, among these types, it stands, and is no array and no record
  pub record PlainAt (own : List TypedType) (t : TypeRef) : Type 0 where
    pub w : Around
    pub fair : Fair w
    pub within : Lies w.own own
    pub stands : S w.own t
    pub plain : is_structured (map_of w) t ≡ false

  pub plain_more : (own more : List TypedType) → Lies own more → (t : TypeRef) → PlainAt own t → PlainAt more t
  plain_more own more l t h = record { w = h.w; fair = h.fair; within = lies_then h.w.own own more h.within l; stands = h.stands; plain = h.plain }

  pub record ArePassed (own : List TypedType) (p : Parameters) : Type 0 where
    pub made : AllByRecursion (IsDescribed Any) p.made
    pub aliases : Aliases (p.made ++ own) p.made
    pub passed : AllByRecursion (Passed (p.made ++ own)) p.parameters
    pub result : IfThere (PlainAt own) p.signature.result

  lies_swap : (a b own : List TypedType) → Lies (b ++ (a ++ own)) ((a ++ b) ++ own)
  lies_swap a b own t i = ⊎_elim (λ j. one_left (a ++ b) own t (one_right a b t j)) (λ j. ⊎_elim (λ k. one_left (a ++ b) own t (one_left a b t k)) (λ k. one_right (a ++ b) own t k) (one_joined a own t j)) (one_joined b (a ++ own) t i)

  lies_first : (a b own : List TypedType) → Lies (a ++ own) ((a ++ b) ++ own)
  lies_first a b own t i = ⊎_elim (λ k. one_left (a ++ b) own t (one_left a b t k)) (λ k. one_right (a ++ b) own t k) (one_joined a own t i)

  -- one section: all its parameters are of its type
  names_passed : (u : Around) → Fair u → (m : Mode) (t : Typing) → Typed u.own t → (xs : List Ident) → AllByRecursion (Passed (t.made ++ u.own)) (parameters_of u m xs t).parameters
  names_passed u f m t h [] = tt
  names_passed u f m t h (x ∷ xs) = (record { w = with_types u t.made; fair = more_types u f t.made h.made h.aliases; within = lies_same (t.made ++ u.own); stands = h.of; mode = m; is = refl }, names_passed u f m t h xs)

  entity_known : (own : List TypedType) (u : Around) (m : Mode) (x : Ident) (o : Option Typing) → EntityStands Any unit shown own (parameter_as u m x o)
  entity_known own u m x None = tt
  entity_known own u m x (Some t) = tt

  declared_fair : (u : Around) → Fair u → (m : Mode) (t : Option Typing) (xs : List Ident) → Fair (declare_all u m t xs).around
  declared_fair u f m t [] = f
  declared_fair u f m t (x ∷ xs) = declared_fair (knows u x (parameter_as u m x t)) (more_known u f _ (entity_known u.own u m x t)) m t xs

  declared_own : (u : Around) (m : Mode) (t : Option Typing) (xs : List Ident) → (declare_all u m t xs).around.own ≡ u.own
  declared_own u m t [] = refl
  declared_own u m t (x ∷ xs) = declared_own (knows u x (parameter_as u m x t)) m t xs

  -- parameters of two parts
  joined_passed : (own : List TypedType) (a b : Parameters) → ArePassed own a → ArePassed (a.made ++ own) b → ArePassed own (parameters_joined a b)
  joined_passed own a b h k =
      let first = lies_first a.made b.made own in
      let second = lies_swap a.made b.made own in
      record {
        made = all_both (IsDescribed Any) a.made b.made h.made k.made;
        aliases = all_both (λ (s : TypedType). AliasStands unit shown ((a.made ++ b.made) ++ own) s.desc) a.made b.made
            (aliases_grown unit shown out [] Anything (λ s i. tt) (a.made ++ own) ((a.made ++ b.made) ++ own) (grows_as (a.made ++ own) ((a.made ++ b.made) ++ own) first) a.made h.aliases)
            (aliases_grown unit shown out [] Anything (λ s i. tt) (b.made ++ (a.made ++ own)) ((a.made ++ b.made) ++ own) (grows_as (b.made ++ (a.made ++ own)) ((a.made ++ b.made) ++ own) second) b.made k.aliases);
        passed = all_both (Passed ((a.made ++ b.made) ++ own)) a.parameters b.parameters (all_more (a.made ++ own) ((a.made ++ b.made) ++ own) first a.parameters h.passed) (all_more (b.made ++ (a.made ++ own)) ((a.made ++ b.made) ++ own) second b.parameters k.passed);
        result = tt;
      }

  second : (own more : List TypedType) (a : Parameters) (quiet : Bool) (o : Option Parameters) → IfThere (ArePassed more) o → ((q : Parameters) → ArePassed more q → ArePassed own (parameters_joined a q)) → IfThere (ArePassed own) (if_sound (paired (if_quiet quiet (Some a)) o) (λ q. sound (parameters_joined q.0 q.1))).node
  second own more a false o h k = tt
  second own more a true None h k = tt
  second own more a true (Some q) h k = k q h

  pub sections_passed : (ss : List WrittenSection) → GoodSections ss → (u : Around) → Fair u → (name : List ℕ) (i : ℕ) → Has (ArePassed u.own) (sections u name i ss).found
  sections_passed [] g u f name i = record { made = tt; aliases = tt; passed = tt; result = tt }
  sections_passed (s ∷ ss) g u f name i =
      by t.node (g.0 u f (section_name name i) mark.Hidden true) (λ v h. sections_passed ss g.1 v h name (i + length s.names))
    where
      t : Judged Typing
      t = s.node.typing u (section_name name i) mark.Hidden true

      n : Around
      n = (declare_all u (mode_of s.is_var) t.node s.names).around

      by : (o : Option Typing) → IfThere (Typed u.own) o → ((v : Around) → Fair v → Has (ArePassed v.own) (sections v name (i + length s.names) ss).found)
          → Has (ArePassed u.own) (both (behind_quiet (declare_all u (mode_of s.is_var) o s.names).notes (made (parameters_of u (mode_of s.is_var) s.names) (record { node = o; notes = t.notes }))) (sections (with_made (declare_all u (mode_of s.is_var) o s.names).around o) name (i + length s.names) ss).found ▷ λ q. sound (parameters_joined q.0 q.1))
      by None h r = none (is_quiet (declare_all u (mode_of s.is_var) None s.names).notes.broken)
        where
          none : (q : Bool) → IfThere (ArePassed u.own) (if_sound (paired (if_quiet q None) (sections (declare_all u (mode_of s.is_var) None s.names).around name (i + length s.names) ss).found.node) (λ q. sound (parameters_joined q.0 q.1))).node
          none true = tt
          none false = tt
      by (Some x) h r =
          let m = mode_of s.is_var in
          let d = (declare_all u m (Some x) s.names).around in
          let same : d.own ≡ u.own = declared_own u m (Some x) s.names in
          let v = with_types d x.made in
          let fair = more_types d (declared_fair u f m (Some x) s.names) x.made h.made (subst (λ own. Aliases (x.made ++ own) x.made) (sym same) h.aliases) in
          let rest : Has (ArePassed (x.made ++ u.own)) (sections v name (i + length s.names) ss).found = subst (λ own. Has (ArePassed (x.made ++ own)) (sections v name (i + length s.names) ss).found) same (r v fair) in
          let a = parameters_of u m s.names x in
          let first : ArePassed u.own a = record { made = h.made; aliases = h.aliases; passed = names_passed u f m x h s.names; result = tt } in
          second u.own (x.made ++ u.own) a (is_quiet (declare_all u m (Some x) s.names).notes.broken) (sections v name (i + length s.names) ss).found.node rest (λ q k. joined_passed u.own a q first k)

  -- what is known behind sections is what was known before, and parameters
  all_known : (own : List TypedType) (u : Around) (m : Mode) (t : Option Typing) (xs : List Ident) → KnownIn own u.known → KnownIn own (declare_all u m t xs).around.known
  all_known own u m t [] h = h
  all_known own u m t (x ∷ xs) h = all_known own (knows u x (parameter_as u m x t)) m t xs (entity_known own u m x t, h)

  with_known : (u : Around) (o : Option Typing) → (with_made u o).known ≡ u.known
  with_known u None = refl
  with_known u (Some t) = refl

  pub sections_known : (own : List TypedType) (ss : List WrittenSection) (u : Around) (name : List ℕ) (i : ℕ) → KnownIn own u.known → KnownIn own (sections u name i ss).known
  sections_known own [] u name i h = h
  sections_known own (s ∷ ss) u name i h =
      let t = (s.node.typing u (section_name name i) mark.Hidden true).node in
      let n = (declare_all u (mode_of s.is_var) t s.names).around in
      sections_known own ss (with_made n t) name (i + length s.names) (subst (KnownIn own) (sym (with_known n t)) (all_known own u (mode_of s.is_var) t s.names h))

  -- ---- with their result

  fits : (P : TypeRef → Type 0) (u : Around) (at : Pos) (t : TypeRef) → (is_structured (map_of u) t ≡ false → P t) → Has (IfThere P) (result_fits u at t)
  fits P u at t h = by (is_structured (map_of u) t) refl
    where
      by : (b : Bool) → is_structured (map_of u) t ≡ b → Has (IfThere P) (unless b rule.StructuredResult at (Some t))
      by true e = tt
      by false e = h e

  result_stands : (u : Around) → Fair u → (o : Option Qualident) → Has (IfThere (PlainAt u.own)) (result_of u o)
  result_stands u f None = tt
  result_stands u f (Some q) = then_has (S u.own) (IfThere (PlainAt u.own)) (type_named u q) (result_fits u (first_of q)) (type_named_stands Any unit shown u f.knows q) (λ t h. fits (PlainAt u.own) u (first_of q) t (λ e. record { w = u; fair = f; within = lies_same u.own; stands = h; plain = e }))

  pub parameters_passed : (u : Around) → Fair u → (name : List ℕ) (p : WrittenParameters) → GoodSections p.sections → Has (ArePassed u.own) (parameters_in u name p).found
  parameters_passed u f name p g =
      let s = sections u name 1 p.sections in
      let v : Around = record u { known = s.known } in
      let fair : Fair v = record { knows = record { unit_is = f.knows.unit_is; shown_is = f.knows.shown_is; own = f.knows.own; known = sections_known u.own p.sections u name 1 f.knows.known }; aliases = f.aliases; lies = λ s i. tt } in
      then_has (λ (q : Parameters × Option TypeRef). ArePassed u.own q.0 × IfThere (PlainAt u.own) q.1) (ArePassed u.own) (both s.found (result_of v p.result)) (λ p. sound (with_result p.0 p.1))
      (both_have (ArePassed u.own) (IfThere (PlainAt u.own)) s.found (result_of v p.result) (sections_passed p.sections g u f name 1) (result_stands v fair p.result))
      (λ q h. record { made = h.0.made; aliases = h.0.aliases; passed = h.0.passed; result = h.1 })

  -- ---- receivers

  pub record IsReceiver (u : Around) (b : BoundAs) : Type 0 where
    pub stands : S u.own b.of
    pub var : Bool
    pub kind : b.receiver ≡ kind_of var
    pub is : received_record (map_of u) var b.of ≡ Some b.owner

  owned : (u : Around) (o : Option QName) (q : QName) → own_record u o ≡ Some q → o ≡ Some q
  owned u None q e = absurd cc
  owned u (Some p) q e = by (is_own u p && is_module_level u) e
    where
      by : (b : Bool) → if_own b p ≡ Some q → Some p ≡ Some q
      by true e = e
      by false e = absurd cc

  receiver_by : (u : Around) (at : Pos) (var : Bool) (t : TypeRef) → S u.own t → (quiet : Bool) (o : Option QName) → own_record u (received_record (map_of u) var t) ≡ o → Has (IsReceiver u) (bound_to at var t quiet o)
  receiver_by u at var t s quiet (Some q) e = record { stands = s; var = var; kind = refl; is = owned u (received_record (map_of u) var t) q e }
  receiver_by u at var t s true None e = tt
  receiver_by u at var t s false None e = tt

  pub owner_stands : (u : Around) → Fair u → (o : Option RawReceiver) → Has (IfThere (IsReceiver u)) (owner_if u o)
  owner_stands u f None = tt
  owner_stands u f (Some r) =
      let q : Qualident = record { qualifier = None; ident = r.owner } in
      then_has (IsReceiver u) (IfThere (IsReceiver u)) (owner_of u r) (λ b. sound (Some b))
      (then_has (S u.own) (IsReceiver u) (type_named u q) (λ t. bound_to r.owner.pos r.is_var t (is_module_level u && silent_base (map_of u) r.is_var (pointed (map_of u) t)) (own_record u (received_record (map_of u) r.is_var t))) (type_named_stands Any unit shown u f.knows q) (λ t h. receiver_by u r.owner.pos r.is_var t h _ _ refl))
      (λ b h. h)

  -- a record is passed by VAR, a pointer by value
  record_passed : (map : Map) (t : TypeRef) (q : QName) → record_of map t ≡ Some q → passing_of map mode.Var t ≡ passing.VariableRecord
  record_passed map t q e = by (target map 201 t) (shape map t) e
    where
      by : (u : TypeRef) (o : Option Desc) → record_at u o ≡ Some q → by_var (is_some (open_at o)) (is_some (record_at u o)) ≡ passing.VariableRecord
      by (ref.Named p) (Some (desc.Record r)) e = refl
      by (ref.Named p) (Some (desc.Const v)) e = absurd cc
      by (ref.Named p) (Some (desc.Var m t)) e = absurd cc
      by (ref.Named p) (Some (desc.Proc s)) e = absurd cc
      by (ref.Named p) (Some (desc.Alias m t)) e = absurd cc
      by (ref.Named p) (Some (desc.Array m n t)) e = absurd cc
      by (ref.Named p) (Some (desc.OpenArray m t)) e = absurd cc
      by (ref.Named p) (Some (desc.Pointer m t)) e = absurd cc
      by (ref.Named p) (Some (desc.ProcType m s)) e = absurd cc
      by (ref.Named p) None e = absurd cc
      by (ref.Basic b) o e = absurd cc

  pointer_passed : (map : Map) (t : TypeRef) (q : QName) → pointed_record map t ≡ Some q → passing_of map mode.Value t ≡ passing.Scalar
  pointer_passed map t q e = by (target map 201 t) (shape map t) e
    where
      by : (u : TypeRef) (o : Option Desc) → record_if map (pointer_of o) ≡ Some q → by_value (is_some (open_at o)) (is_some (array_at o) || is_some (record_at u o)) ≡ passing.Scalar
      by (ref.Named p) (Some (desc.Pointer m t)) e = refl
      by (ref.Basic b) (Some (desc.Pointer m t)) e = refl
      by u (Some (desc.Record r)) e = absurd cc
      by u (Some (desc.Const v)) e = absurd cc
      by u (Some (desc.Var m t)) e = absurd cc
      by u (Some (desc.Proc s)) e = absurd cc
      by u (Some (desc.Alias m t)) e = absurd cc
      by u (Some (desc.Array m n t)) e = absurd cc
      by u (Some (desc.OpenArray m t)) e = absurd cc
      by u (Some (desc.ProcType m s)) e = absurd cc
      by u None e = absurd cc

  pub self_passed : (u : Around) → Fair u → (x : Ident) (b : BoundAs) → IsReceiver u b → Passed u.own (self_by x b b.receiver)
  self_passed u f x b h = subst (λ k. Passed u.own (self_by x b k)) (sym h.kind) (by h.var h.is)
    where
      by : (v : Bool) → received_record (map_of u) v b.of ≡ Some b.owner → Passed u.own (self_by x b (kind_of v))
      by true e = record { w = u; fair = f; within = lies_same u.own; stands = h.stands; mode = mode.Var; is = sym (record_passed (map_of u) b.of b.owner e) }
      by false e = record { w = u; fair = f; within = lies_same u.own; stands = h.stands; mode = mode.Value; is = sym (pointer_passed (map_of u) b.of b.owner e) }

  -- what is known with the receiver
  pub receiver_fair : (u : Around) → Fair u → (r : Option RawReceiver) (o : Option (Option BoundAs)) → Fair (knows_receiver (inner u) r o)
  receiver_fair u f None o = same
    where
      same : Fair (inner u)
      same = record { knows = record { unit_is = f.knows.unit_is; shown_is = f.knows.shown_is; own = f.knows.own; known = f.knows.known }; aliases = f.aliases; lies = f.lies }
  receiver_fair u f (Some r) (Some (Some b)) = record { knows = record { unit_is = f.knows.unit_is; shown_is = f.knows.shown_is; own = f.knows.own; known = (tt, f.knows.known) }; aliases = f.aliases; lies = f.lies }
  receiver_fair u f (Some r) (Some None) = record { knows = record { unit_is = f.knows.unit_is; shown_is = f.knows.shown_is; own = f.knows.own; known = (tt, f.knows.known) }; aliases = f.aliases; lies = f.lies }
  receiver_fair u f (Some r) None = record { knows = record { unit_is = f.knows.unit_is; shown_is = f.knows.shown_is; own = f.knows.own; known = (tt, f.knows.known) }; aliases = f.aliases; lies = f.lies }
