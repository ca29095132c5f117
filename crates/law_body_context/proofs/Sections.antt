-- Parameters: their types stand, they have the modes and types of the signature, and what is known behind them are they.
use Rattle.ob_rules.specs.Headings.{anew, made_anew, are_there}
use Rattle.std.proofs.Common.{◌≡◌, ⊎_elim, refl, sym, ap, subst, ℕ, ◌+◌, Bool, true, false, List, [], ◌∷◌, ◌++◌, length, map, Option, Some, None, inl, inr}
use Rattle.std.specs.Prelude.{bytes_eq}
use Rattle.std.specs.List.{AllByRecursion}
use Rattle.ob_tree.specs.declared.pos.Pos.{Pos}
use Rattle.ob_tree.specs.declared.names.QName.{QName}
use Rattle.ob_tree.specs.declared.ident.Ident.{Ident}
use Rattle.ob_tree.specs.declared.ident.Mark.{Mark}
use Rattle.ob_tree.specs.declared.ident.Mark.TheVariants as mark
use Rattle.ob_tree.specs.declared.ident.Qualident.{Qualident}
use Rattle.ob_types.specs.declared.types.Mode.{Mode}
use Rattle.ob_types.specs.declared.types.Mode.TheVariants as mode
use Rattle.ob_types.specs.declared.types.TypeRef.{TypeRef}
use Rattle.ob_types.specs.declared.value.Value.{Value}
use Rattle.ob_types.specs.declared.desc.Desc.{Desc}
use Rattle.ob_types.specs.declared.desc.Desc.TheVariants as desc
use Rattle.ob_types.specs.declared.typed.Variable.{Variable}
use Rattle.ob_types.specs.declared.typed.Variable.TheVariants as variable
use Rattle.ob_types.specs.declared.typed.TypedType.{TypedType}
use Rattle.ob_types.specs.declared.typed.TypedParameter.{TypedParameter}
use Rattle.ob_rules.specs.declared.entity.Entity.{Entity}
use Rattle.ob_rules.specs.declared.entity.Entity.TheVariants as entity
use Rattle.ob_rules.specs.declared.entity.Known.{Known}
use Rattle.ob_rules.specs.declared.broken.Rule.TheVariants as rule
use Rattle.ob_rules.specs.Judged.{Judged, Notes, sound, both, made, if_sound, paired, unless, is_quiet, if_quiet, joined, ◌▷◌}
use Rattle.ob_rules.specs.Shapes.{same_name, passing_of, by_value, by_var, is_open, is_structured, is_record}
use Rattle.ob_rules.specs.Names.{Around, map_of, type_desc, out_string, type_named, is_out}
use Rattle.ob_rules.specs.Types.{Typing, with_types, section_name, Parameters, WrittenSection, WrittenParameters, Sections, mode_of, parameter_as, knows, declare_all, parameters_of, parameters_joined, behind_section, with_made, section, sections, result_fits, result_of, first_of, with_result, behind_sections, parameters_in, inner, procedure_type, typed_as}
use Rattle.law_typing_forms.specs.Said.{IsOneOf}
use Rattle.law_methods_described.proofs.Nodes.{Has, then_has, both_have, anew_has}
use Rattle.law_typing.specs.Makes.{IfThere}
use Rattle.law_body_context.specs.Knows.{Grows, Stands, IsDescribed, EntityStands, Knows, IsPlain}
use Rattle.law_body_context.specs.Judged as judged
use Rattle.law_body_context.specs.Judged.{AreOf, IsParameter}
use Rattle.law_body_context.proofs.Lists.{one_left, one_right, one_joined, all_of, all_same, there_of}
use Rattle.law_body_context.proofs.Standing.{stands_grown, with_types_known}
use Rattle.law_body_context.proofs.Named.{type_named_stands}
use Rattle.law_body_context.proofs.Typings.{TypingIs, IsGood, typed_is}
use Rattle.law_lists.proofs.Lists.{all_both}

-- THE MODE OF A PASSING

value_mode : (a b : Bool) → judged.mode_of (by_value a b) ≡ mode.Value
value_mode true b = refl
value_mode false true = refl
value_mode false false = refl

var_mode : (a b : Bool) → judged.mode_of (by_var a b) ≡ mode.Var
var_mode true b = refl
var_mode false true = refl
var_mode false false = refl

passing_mode : (types : QName → Option Desc) (m : Mode) (t : TypeRef) → judged.mode_of (passing_of types m t) ≡ m
passing_mode types mode.Value t = value_mode (is_open types t) (is_structured types t)
passing_mode types mode.Var t = var_mode (is_open types t) (is_record types t)

-- THE MAP DOES NOT HANG ON WHAT IS KNOWN

same_desc : (u : Around) (ks : List Known) (ts : List TypedType) (a b : Bool) (q : QName) → type_desc a b (with_types (record u { known = ks }) ts) q ≡ type_desc a b (with_types u ts) q
same_desc u ks ts true b q = refl
same_desc u ks ts false true q = refl
same_desc u ks ts false false q = refl

same_map : (u : Around) (ks : List Known) (ts : List TypedType) → map_of (with_types (record u { known = ks }) ts) ≡ map_of (with_types u ts)
same_map u ks ts = λ i q. same_desc u ks ts (bytes_eq q.«module» u.unit) (same_name q out_string) q i

-- AROUND A LIST OF NAMES

declared_around : (u : Around) (m : Mode) (t : Option Typing) (xs : List Ident) → (declare_all u m t xs).around ≡ record u { known = (declare_all u m t xs).around.known }
declared_around u m t [] = refl
declared_around u m t (x ∷ xs) = declared_around (knows u x (parameter_as u m x t)) m t xs

are_joined : (ps qs : List TypedParameter) (ks ls : List (Mode × TypeRef)) → AreOf ps ks → AreOf qs ls → AreOf (ps ++ qs) (ks ++ ls)
are_joined [] qs [] ls h g = g
are_joined [] qs (k ∷ ks) ls h g = absurd h
are_joined (p ∷ ps) qs [] ls h g = absurd h
are_joined (p ∷ ps) qs (k ∷ ks) ls h g = (h.0, are_joined ps qs ks ls h.1 g)

module _ (IsConstant : Value → Type 0) (unit : List ℕ) (shown : QName → Option Desc) (out : is_out unit ≡ false) where
  abbrev S : List TypedType → TypeRef → Type 0
  S own t = Stands unit shown own t

  abbrev K : Around → Type 0
  K u = Knows IsConstant unit shown u

  abbrev pub AreGoodSections : List WrittenSection → Type 0
  AreGoodSections ss = AllByRecursion (λ s. IsGood IsConstant unit shown out s.node) ss

  pub record ParametersAre (own : List TypedType) (p : Parameters) : Type 0 where
    pub made : AllByRecursion (IsDescribed IsConstant) p.made
    pub params : AllByRecursion (λ k. S (p.made ++ own) k.1) p.signature.params
    pub answer : AreOf p.parameters p.signature.params
    pub result : IfThere (S own) p.signature.result
    pub plain : IfThere (IsPlain IsConstant unit shown) p.signature.result

  -- what is known of a parameter is one of these, where they are there
  abbrev pub ParameterEntity : List TypedType → Option Parameters → Entity → Type 0
  ParameterEntity own o (entity.Variable v t) = IfThere (λ p. IsParameter p.parameters v t × S (p.made ++ own) t) o
  ParameterEntity own o entity.Unsound = Unit {0}
  ParameterEntity own o e = ⊥

  pub record SectionsAre (own : List TypedType) (scope : ℕ) (before : List Known) (s : Sections) : Type 1 where
    pub found : Has (ParametersAre own) s.found
    -- what holds of what was known before and of parameters holds of what is known behind
    pub known : (P : Known → Type 0) → AllByRecursion P before → ((k : Known) → k.scope ≡ scope → ParameterEntity own s.found.node k.what → P k) → AllByRecursion P s.known

  entity_none : (own more : List TypedType) (o : Option Parameters) (e : Entity) → ParameterEntity own o e → ParameterEntity more None e
  entity_none own more o (entity.Constant v) h = h
  entity_none own more o (entity.TypeName t) h = h
  entity_none own more o (entity.Variable v t) h = tt
  entity_none own more o (entity.Procedure q s) h = h
  entity_none own more o (entity.Forward q s) h = h
  entity_none own more o (entity.Module n) h = h
  entity_none own more o (entity.Predeclared p) h = h
  entity_none own more o entity.LeftOut h = h
  entity_none own more o entity.Unsound h = tt

  -- parameters whose types no other declaration has made
  pub anew_are : (own : List TypedType) (scope : ℕ) (before : List Known) (u : Around) (at : Pos) (s : Sections) → SectionsAre own scope before s → SectionsAre own scope before (anew u at s)
  anew_are own scope before u at s h = record {
    found = anew_has (ParametersAre own) u at s h.found;
    known = λ P g f. h.known P g (λ x e i. f x e (by s.found.node x.what i));
  }
    where
      one : (p : Parameters) (b : Bool) (e : Entity) → ParameterEntity own (Some p) e → ParameterEntity own (unless b rule.DeclaredTwice at p).node e
      one p true e i = entity_none own own (Some p) e i
      one p false e i = i

      by : (o : Option Parameters) (e : Entity) → ParameterEntity own o e → ParameterEntity own (if_sound o (made_anew u at)).node e
      by None e i = i
      by (Some p) e i = one p (are_there u p.made) e i

  -- where one option comes from another, as far as parameters go
  entity_of : (own more : List TypedType) (o p : Option Parameters) → ((v : Variable) (t : TypeRef) → IfThere (λ p. IsParameter p.parameters v t × S (p.made ++ own) t) o → IfThere (λ p. IsParameter p.parameters v t × S (p.made ++ more) t) p) → (e : Entity) → ParameterEntity own o e → ParameterEntity more p e
  entity_of own more o p f (entity.Constant v) h = h
  entity_of own more o p f (entity.TypeName t) h = h
  entity_of own more o p f (entity.Variable v t) h = f v t h
  entity_of own more o p f (entity.Procedure q s) h = h
  entity_of own more o p f (entity.Forward q s) h = h
  entity_of own more o p f (entity.Module n) h = h
  entity_of own more o p f (entity.Predeclared c) h = h
  entity_of own more o p f entity.LeftOut h = h
  entity_of own more o p f entity.Unsound h = tt

  pub entity_stands : (own more : List TypedType) (o : Option Parameters) (e : Entity) → ParameterEntity own o e → EntityStands IsConstant unit shown more e
  entity_stands own more o (entity.Constant v) h = absurd h
  entity_stands own more o (entity.TypeName t) h = absurd h
  entity_stands own more o (entity.Variable v t) h = tt
  entity_stands own more o (entity.Procedure q s) h = tt
  entity_stands own more o (entity.Forward q s) h = tt
  entity_stands own more o (entity.Module n) h = absurd h
  entity_stands own more o (entity.Predeclared p) h = tt
  entity_stands own more o entity.LeftOut h = tt
  entity_stands own more o entity.Unsound h = tt

  -- ONE SECTION

  -- a name of a section
  abbrev section_entity : Around → Mode → Option Typing → Ident → Entity
  section_entity u m t x = parameter_as u m x t

  names_known : (P : Known → Type 0) (m : Mode) (t : Option Typing) (u : Around) (ks : List Known) (xs : List Ident) → AllByRecursion P ks → ((x : Ident) (ls : List Known) → IsOneOf xs x → P (record { name = x.name; scope = u.scope; what = parameter_as (record u { known = ls }) m x t })) → AllByRecursion P (declare_all (record u { known = ks }) m t xs).around.known
  names_known P m t u ks [] h g = h
  names_known P m t u ks (x ∷ xs) h g = names_known P m t u (record { name = x.name; scope = u.scope; what = parameter_as (record u { known = ks }) m x t } ∷ ks) xs (g x ks (inl refl), h) (λ y ls i. g y ls (inr i))

  abbrev one_parameter : Around → Mode → Typing → Ident → TypedParameter
  one_parameter u m t x = record { name = x.name; passing = passing_of (map_of (with_types u t.made)) m t.of; of = t.of }

  mine_of : (u : Around) (m : Mode) (t : Typing) (xs : List Ident) → AreOf (map (one_parameter u m t) xs) (map (λ x. (m, t.of)) xs)
  mine_of u m t [] = tt
  mine_of u m t (x ∷ xs) = ((refl, passing_mode (map_of (with_types u t.made)) m t.of), mine_of u m t xs)

  one_mapped : {A B : Type 0} (f : A → B) (xs : List A) (x : A) → IsOneOf xs x → IsOneOf (map f xs) (f x)
  one_mapped f [] x h = absurd h
  one_mapped f (y ∷ xs) x (inl e) = inl (ap f e)
  one_mapped f (y ∷ xs) x (inr h) = inr (one_mapped f xs x h)

  mine_are : (u : Around) (m : Mode) (xs : List Ident) (t : Typing) → TypingIs IsConstant unit shown out u.own t → ParametersAre u.own (parameters_of u m xs t)
  mine_are u m xs t h = record {
    made = h.made;
    params = all_same (λ (k : Mode × TypeRef). S (t.made ++ u.own) k.1) (λ x. (m, t.of)) xs (λ x i. h.of);
    answer = mine_of u m t xs;
    result = tt;
    plain = tt;
  }

  -- a name of the section is a parameter
  mine_entity : (u : Around) (m : Mode) (xs : List Ident) (t : Typing) (x : Ident) (ls : List Known) → TypingIs IsConstant unit shown out u.own t → IsOneOf xs x → ParameterEntity u.own (Some (parameters_of u m xs t)) (parameter_as (record u { known = ls }) m x (Some t))
  mine_entity u m xs t x ls h i =
      ((one_parameter u m t x, (one_mapped (one_parameter u m t) xs x i, (ap (λ (types : QName → Option Desc). variable.Parameter (passing_of types m t.of) x.name) (same_map u ls t.made), refl))), h.of)

  -- SECTIONS JOINED

  abbrev joined_node : Option Parameters → Option Parameters → Option Parameters
  joined_node a b = (if_sound (paired a b) (λ q. sound (parameters_joined q.0 q.1))).node

  member_front : (a b own : List TypedType) (s : TypedType) → IsOneOf (a ++ own) s → IsOneOf ((a ++ b) ++ own) s
  member_front a b own s i = ⊎_elim (λ k. one_left (a ++ b) own s (one_left a b s k)) (λ k. one_right (a ++ b) own s k) (one_joined a own s i)

  grown_front : (a b own : List TypedType) → Grows (a ++ own) ((a ++ b) ++ own)
  grown_front a b own x h = (h.0, (member_front a b own h.0 h.1.0, h.1.1))

  grown_back : (a b own : List TypedType) → Grows (b ++ (a ++ own)) ((a ++ b) ++ own)
  grown_back a b own x h = (h.0, (⊎_elim (λ k. one_left (a ++ b) own h.0 (one_right a b h.0 k)) (λ k. member_front a b own h.0 k) (one_joined b (a ++ own) h.0 h.1.0), h.1.1))

  joined_are : (own : List TypedType) (a : Parameters) (o : Option Parameters) → ParametersAre own a → IfThere (ParametersAre (a.made ++ own)) o → IfThere (ParametersAre own) (joined_node (Some a) o)
  joined_are own a None h k = tt
  joined_are own a (Some b) h k = record {
    made = all_both (IsDescribed IsConstant) a.made b.made h.made k.made;
    params = all_both (λ (k : Mode × TypeRef). S ((a.made ++ b.made) ++ own) k.1) a.signature.params b.signature.params
        (all_of (λ (k : Mode × TypeRef). S (a.made ++ own) k.1) (λ (k : Mode × TypeRef). S ((a.made ++ b.made) ++ own) k.1) a.signature.params (λ k. stands_grown unit shown (a.made ++ own) ((a.made ++ b.made) ++ own) (grown_front a.made b.made own) k.1) h.params)
        (all_of (λ (k : Mode × TypeRef). S (b.made ++ (a.made ++ own)) k.1) (λ (k : Mode × TypeRef). S ((a.made ++ b.made) ++ own) k.1) b.signature.params (λ k. stands_grown unit shown (b.made ++ (a.made ++ own)) ((a.made ++ b.made) ++ own) (grown_back a.made b.made own) k.1) k.params);
    answer = are_joined a.parameters b.parameters a.signature.params b.signature.params h.answer k.answer;
    result = tt;
    plain = tt;
  }

  entity_left : (own : List TypedType) (a : Parameters) (o : Option Parameters) (v : Variable) (t : TypeRef) → IsParameter a.parameters v t × S (a.made ++ own) t → IfThere (λ p. IsParameter p.parameters v t × S (p.made ++ own) t) (joined_node (Some a) o)
  entity_left own a None v t h = tt
  entity_left own a (Some b) v t h = ((h.0.0, (one_left a.parameters b.parameters h.0.0 h.0.1.0, h.0.1.1)), stands_grown unit shown (a.made ++ own) ((a.made ++ b.made) ++ own) (grown_front a.made b.made own) t h.1)

  entity_right : (own : List TypedType) (a : Parameters) (o : Option Parameters) (v : Variable) (t : TypeRef) → IfThere (λ p. IsParameter p.parameters v t × S (p.made ++ (a.made ++ own)) t) o → IfThere (λ p. IsParameter p.parameters v t × S (p.made ++ own) t) (joined_node (Some a) o)
  entity_right own a None v t h = tt
  entity_right own a (Some b) v t h = ((h.0.0, (one_right a.parameters b.parameters h.0.0 h.0.1.0, h.0.1.1)), stands_grown unit shown (b.made ++ (a.made ++ own)) ((a.made ++ b.made) ++ own) (grown_back a.made b.made own) t h.1)

  -- what is known behind the names of a section
  around_known : (u : Around) → K u → (m : Mode) (t : Option Typing) → IfThere (TypingIs IsConstant unit shown out u.own) t → (xs : List Ident) → K (record u { known = (declare_all u m t xs).around.known })
  around_known u k m t h xs = record {
    unit_is = k.unit_is;
    shown_is = k.shown_is;
    own = k.own;
    known = names_known (λ k. EntityStands IsConstant unit shown u.own k.what) m t u u.known xs k.known (λ x ls i. by t x ls);
  }
    where
      by : (t : Option Typing) (x : Ident) (ls : List Known) → EntityStands IsConstant unit shown u.own (parameter_as (record u { known = ls }) m x t)
      by None x ls = tt
      by (Some t) x ls = tt

  made_known : (u : Around) → K u → (t : Option Typing) → IfThere (TypingIs IsConstant unit shown out u.own) t → K (with_made u t)
  made_known u k None h = k
  made_known u k (Some t) h = with_types_known unit shown IsConstant u k t.made h.made

  module _ (m : Mode) (xs : List Ident) (rest : Around → Sections) (good : (v : Around) → K v → SectionsAre v.own v.scope v.known (rest v)) where
    -- behind the names of the section, at the known names behind them
    behind_is : (u : Around) → K u → (o : Option Typing) (n s : Notes) → IfThere (TypingIs IsConstant unit shown out u.own) o → SectionsAre u.own u.scope u.known (behind_section (made (parameters_of u m xs) (record { node = o; notes = n })) s (rest (with_made (record u { known = (declare_all u m o xs).around.known }) o)))
    behind_is u k None n s h = by (is_quiet s.broken)
      where
        v : Around
        v = record u { known = (declare_all u m None xs).around.known }

        r : SectionsAre v.own v.scope v.known (rest v)
        r = good v (around_known u k m None tt xs)

        front : Bool → Judged Parameters
        front q = record { node = if_quiet q None; notes = joined s (made (parameters_of u m xs) (record { node = None; notes = n })).notes }

        by : (q : Bool) → SectionsAre u.own u.scope u.known (record { found = both (front q) (rest v).found ▷ λ q. sound (parameters_joined q.0 q.1); known = (rest v).known })
        by true = record {
          found = tt;
          known = λ P g f. r.known P (names_known P m None u u.known xs g (λ x ls i. f (record { name = x.name; scope = u.scope; what = entity.Unsound }) refl tt)) (λ x e i. f x e (entity_none u.own u.own (rest v).found.node x.what i));
        }
        by false = record {
          found = tt;
          known = λ P g f. r.known P (names_known P m None u u.known xs g (λ x ls i. f (record { name = x.name; scope = u.scope; what = entity.Unsound }) refl tt)) (λ x e i. f x e (entity_none u.own u.own (rest v).found.node x.what i));
        }
    behind_is u k (Some t) n s h = by (is_quiet s.broken)
      where
        v : Around
        v = with_types (record u { known = (declare_all u m (Some t) xs).around.known }) t.made

        a : Parameters
        a = parameters_of u m xs t

        r : SectionsAre v.own v.scope v.known (rest v)
        r = good v (with_types_known unit shown IsConstant (record u { known = (declare_all u m (Some t) xs).around.known }) (around_known u k m (Some t) h xs) t.made h.made)

        front : Bool → Judged Parameters
        front q = record { node = if_quiet q (Some a); notes = joined s (made (parameters_of u m xs) (record { node = Some t; notes = n })).notes }

        by : (q : Bool) → SectionsAre u.own u.scope u.known (record { found = both (front q) (rest v).found ▷ λ q. sound (parameters_joined q.0 q.1); known = (rest v).known })
        by true = record {
          found = joined_are u.own a (rest v).found.node (mine_are u m xs t h) r.found;
          known = λ P g f.
              r.known P
              (names_known P m (Some t) u u.known xs g (λ x ls i. f (record { name = x.name; scope = u.scope; what = parameter_as (record u { known = ls }) m x (Some t) }) refl (entity_left u.own a (rest v).found.node _ t.of (mine_entity u m xs t x ls h i))))
              (λ x e i. f x e (entity_of v.own u.own (rest v).found.node (joined_node (Some a) (rest v).found.node) (λ p q. entity_right u.own a (rest v).found.node p q) x.what i));
        }
        by false = record {
          found = tt;
          known = λ P g f.
              r.known P
              (names_known P m (Some t) u u.known xs g (λ x ls i. f (record { name = x.name; scope = u.scope; what = parameter_as (record u { known = ls }) m x (Some t) }) refl tt))
              (λ x e i. f x e (entity_none v.own u.own (rest v).found.node x.what i));
        }

    section_is : (u : Around) → K u → (t : Judged Typing) → Has (TypingIs IsConstant unit shown out u.own) t → SectionsAre u.own u.scope u.known (section u m xs t rest)
    section_is u k t h =
        subst (λ v. SectionsAre u.own u.scope u.known (behind_section (made (parameters_of u m xs) t) (declare_all u m t.node xs).notes (rest (with_made v t.node)))) (sym (declared_around u m t.node xs))
        (behind_is u k t.node t.notes (declare_all u m t.node xs).notes h)

  sections_are : (ss : List WrittenSection) → AreGoodSections ss → (u : Around) → K u → (name : List ℕ) (i : ℕ) → SectionsAre u.own u.scope u.known (sections u name i ss)
  sections_are [] g u k name i = record { found = record { made = tt; params = tt; answer = tt; result = tt; plain = tt }; known = λ P h f. h }
  sections_are (s ∷ ss) g u k name i =
      section_is (mode_of s.is_var) s.names (λ v. sections v name (i + length s.names) ss) (λ v l. sections_are ss g.1 v l name (i + length s.names)) u k (s.node.typing u (section_name name i) mark.Hidden true) (g.0 u k (section_name name i) mark.Hidden true)

  -- THE RESULT

  -- a type that stands, and is plain where it is named
  abbrev R : List TypedType → TypeRef → Type 0
  R own t = S own t × IsPlain IsConstant unit shown t

  unless_fits : (own : List TypedType) (at : Pos) (t : TypeRef) (b : Bool) → (b ≡ false → R own t) → Has (IfThere (R own)) (unless b rule.StructuredResult at (Some t))
  unless_fits own at t true h = tt
  unless_fits own at t false h = h refl

  fits_is : (u : Around) → K u → (at : Pos) (t : TypeRef) → S u.own t → Has (IfThere (R u.own)) (result_fits u at t)
  fits_is u k at t h = unless_fits u.own at t (is_structured (map_of u) t) (λ e. (h, record { u = u; knows = k; stands = h; plain = e }))

  result_is : (u : Around) → K u → (r : Option Qualident) → Has (IfThere (R u.own)) (result_of u r)
  result_is u k None = tt
  result_is u k (Some q) = then_has (S u.own) (IfThere (R u.own)) (type_named u q) (result_fits u (first_of q)) (type_named_stands IsConstant unit shown u k q) (λ t h. fits_is u k (first_of q) t h)

  abbrev result_node : Option Parameters → Option (Option TypeRef) → Option Parameters
  result_node a b = (if_sound (paired a b) (λ p. sound (with_result p.0 p.1))).node

  entity_result : (own : List TypedType) (o : Option Parameters) (r : Option (Option TypeRef)) (v : Variable) (t : TypeRef) → IfThere (λ p. IsParameter p.parameters v t × S (p.made ++ own) t) o → IfThere (λ p. IsParameter p.parameters v t × S (p.made ++ own) t) (result_node o r)
  entity_result own None r v t h = tt
  entity_result own (Some p) None v t h = tt
  entity_result own (Some p) (Some r) v t h = h

  behind_sections_are : (u : Around) → K u → (r : Option Qualident) (s : Sections) → SectionsAre u.own u.scope u.known s → SectionsAre u.own u.scope u.known (behind_sections u r s)
  behind_sections_are u k r s h =
      let v : Around = record u { known = s.known } in
      let l : K v = record { unit_is = k.unit_is; shown_is = k.shown_is; own = k.own; known = h.known (λ k. EntityStands IsConstant unit shown u.own k.what) k.known (λ x e i. entity_stands u.own u.own s.found.node x.what i) } in
      record {
        found = then_has (λ (p : Parameters × Option TypeRef). ParametersAre u.own p.0 × IfThere (R u.own) p.1) (ParametersAre u.own) (both s.found (result_of v r)) (λ p. sound (with_result p.0 p.1))
            (both_have (ParametersAre u.own) (IfThere (R u.own)) s.found (result_of v r) h.found (result_is v l r))
            (λ p g. record { made = g.0.made; params = g.0.params; answer = g.0.answer; result = there_of (R u.own) (S u.own) p.1 (λ t k. k.0) g.1; plain = there_of (R u.own) (IsPlain IsConstant unit shown) p.1 (λ t k. k.1) g.1 });
        known = λ P g f. h.known P g (λ x e i. f x e (entity_of u.own u.own s.found.node (result_node s.found.node (result_of v r).node) (λ p q. entity_result u.own s.found.node (result_of v r).node p q) x.what i));
      }

  pub parameters_are : (u : Around) → K u → (name : List ℕ) (p : WrittenParameters) → AreGoodSections p.sections → SectionsAre u.own u.scope u.known (parameters_in u name p)
  parameters_are u k name p g = behind_sections_are u k p.result (sections u name 1 p.sections) (sections_are p.sections g u k name 1)

  pub inner_known : (u : Around) → K u → K (inner u)
  inner_known u k = record { unit_is = k.unit_is; shown_is = k.shown_is; own = k.own; known = k.known }

  -- a procedure type
  pub type_good : (u : Around) → K u → (name : List ℕ) (m : Mark) (p : WrittenParameters) → AreGoodSections p.sections → Has (TypingIs IsConstant unit shown out u.own) (procedure_type u name m p)
  type_good u k name m p g =
      then_has (ParametersAre u.own) (TypingIs IsConstant unit shown out u.own) (parameters_in (inner u) name p).found (λ q. sound (typed_as u name (desc.ProcType m q.signature) q.made)) (parameters_are (inner u) (inner_known u k) name p g).found
      (λ q h. typed_is IsConstant unit shown out u k name (desc.ProcType m q.signature) q.made refl tt h.made)
