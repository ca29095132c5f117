-- Constants, types, variables and imports: what is known behind each is known by what stands before it and what it makes.
use Rattle.std.proofs.Common.{◌≡◌, refl, sym, ap, subst, ℕ, Bool, true, false, List, [], ◌∷◌, ◌++◌, map, Option, Some, None, inl}
use Rattle.std.specs.Prelude.{bytes_eq, codes, is_some}
use Rattle.std.specs.List.{AllByRecursion}
use Rattle.ob_tree.specs.declared.names.QName.{QName}
use Rattle.ob_tree.specs.declared.ident.Ident.{Ident}
use Rattle.ob_tree.specs.declared.ident.IdentDef.{IdentDef}
use Rattle.ob_tree.specs.declared.ident.Import.{Import}
use Rattle.ob_tree.specs.declared.ident.Mark.{Mark}
use Rattle.ob_tree.specs.declared.ident.Mark.TheVariants as mark
use Rattle.ob_tree.specs.declared.ident.Qualident.{Qualident}
use Rattle.ob_types.specs.declared.types.TypeRef.{TypeRef}
use Rattle.ob_types.specs.declared.types.TypeRef.TheVariants as ref
use Rattle.ob_types.specs.declared.value.Value.{Value}
use Rattle.ob_types.specs.declared.desc.Desc.{Desc}
use Rattle.ob_types.specs.declared.desc.Desc.TheVariants as desc
use Rattle.ob_types.specs.declared.typed.TypedType.{TypedType}
use Rattle.ob_rules.specs.declared.entity.Entity.{Entity}
use Rattle.ob_rules.specs.declared.entity.Known.{Known}
use Rattle.ob_rules.specs.Judged.{sound, both, ◌▷◌}
use Rattle.ob_rules.specs.Names.{Around, in_unit, found_in_scope, is_out}
use Rattle.ob_rules.specs.Phrases.{Phrase}
use Rattle.ob_rules.specs.Expressions.{constant_value}
use Rattle.ob_rules.specs.Types.{Typing, Written, with_types, is_module_level, marked}
use Rattle.ob_rules.specs.Headings.{mark_or_hidden}
use Rattle.ob_rules.specs.Declarations.{no_contents, Part, Declared, declare_if, declare, no_nil, constant_entity, constant_contents, constant_declared, equated, typing_as, type_entity, types_made, type_declared, variable_entity, variable_contents, paired_typing, variables_with, first_name, made_in, variables_declared, in_order, behind_part, is_system, target_of, import_entity, import_declared, newly}
use Rattle.law_methods_described.proofs.Nodes.{Has, then_has, second_has}
use Rattle.law_typing.specs.Makes.{IfThere}
use Rattle.law_body_context.specs.Knows.{HasName, Stands, EntityStands}
use Rattle.law_body_context.specs.Order.{IsOver}
use Rattle.law_body_context.proofs.Lists.{one_left}
use Rattle.law_body_context.proofs.Standing.{own_stands, grows_front}
use Rattle.law_body_context.proofs.Typings.{TypingOver, IsWellOver}
use Rattle.law_acyclic.proofs.Firm.{AnyValue}
use Rattle.law_builds_written.proofs.based_laws.Order.{names_of, grows_apart, AreInText, text_made, text_joined, Text, text_more, known_over, over_back}
use Rattle.law_builds_written.proofs.based_laws.Written.{IsItself, NamesItself}

module _ (unit : List ℕ) (shown : QName → Option Desc) (out : is_out unit ≡ false) where
  abbrev S : List TypedType → TypeRef → Type 0
  S before t = Stands unit shown before t

  abbrev O : List TypedType → List TypedType → Type 0
  O before ts = AllByRecursion (IsOver (S before)) ts

  abbrev E : List TypedType → Entity → Type 0
  E before e = EntityStands AnyValue unit shown before e

  -- a declaration behind these types
  pub record Goes (before : List TypedType) (d : Declared) : Type 0 where
    pub types : AreInText unit shown before d.part.contents.types
    pub around : Text unit shown (d.part.contents.types ++ before) d.around

  abbrev pub IsGoing : (Around → Declared) → Type 0
  IsGoing f = (before : List TypedType) (u : Around) → Text unit shown before u → Goes before (f u)

  goes_none : (before : List TypedType) (d : Declared) → d.part.contents.types ≡ [] → Text unit shown before d.around → Goes before d
  goes_none before d e t = record { types = subst (AreInText unit shown before) (sym e) tt; around = subst (λ ts. Text unit shown (ts ++ before) d.around) (sym e) t }

  goes_then : (before : List TypedType) (a : Part) (d : Declared) → AreInText unit shown before a.contents.types → Goes (a.contents.types ++ before) d → Goes before (behind_part a d)
  goes_then before a d h g = record {
    types = text_joined unit shown before a.contents.types d.part.contents.types h g.types;
    around = text_more unit shown (d.part.contents.types ++ (a.contents.types ++ before)) ((a.contents.types ++ d.part.contents.types) ++ before) (grows_apart a.contents.types d.part.contents.types before) d.around g.around;
  }

  declare_text : (before : List TypedType) (u : Around) → Text unit shown before u → (o : Option Known) (x : Ident) (e : Entity) → E before e → Text unit shown before (declare_if o u x e)
  declare_text before u t (Some k) x e h = t
  declare_text before u t None x e h = record { unit_is = t.unit_is; shown_is = t.shown_is; known = (h, t.known) }

  types_text : (before : List TypedType) (u : Around) → Text unit shown before u → (ts : List TypedType) → Text unit shown before (with_types u ts)
  types_text before u t ts = record { unit_is = t.unit_is; shown_is = t.shown_is; known = t.known }

  -- CONSTANTS

  constant_stands : (before : List TypedType) (o : Option (Mark × Value)) → E before (constant_entity o)
  constant_stands before None = tt
  constant_stands before (Some p) = tt

  constant_none : (b : Bool) (x : Ident) (o : Option (Mark × Value)) → (constant_contents b x o).types ≡ []
  constant_none true x None = refl
  constant_none true x (Some p) = refl
  constant_none false x o = refl

  pub constant_goes : (d : IdentDef) (x : Phrase) → IsGoing (constant_declared d x)
  constant_goes d x before u t =
      let o = (both (marked u false d) (constant_value u x ▷ no_nil x.start)).node in
      goes_none before (constant_declared d x u) (constant_none (is_module_level u) d.ident o) (declare_text before u t (found_in_scope u d.ident.name) d.ident (constant_entity o) (constant_stands before o))

  -- TYPES

  -- over those before it, and under its own name
  pub record IsPut (before : List TypedType) (u : Around) (name : List ℕ) (t : Typing) : Type 0 where
    pub made : O before t.made
    pub itself : IsItself u name t

  put_both : (before : List TypedType) (u : Around) (name : List ℕ) (b : Bool) (o : Option Typing) → IfThere (TypingOver AnyValue unit shown out (names_of before) b) o → IfThere (IsItself u name) o → IfThere (IsPut before u name) o
  put_both before u name b None h k = tt
  put_both before u name b (Some t) h k = record { made = over_back unit shown out before t.made h.made; itself = k }

  put_as : (before : List TypedType) (u : Around) → Text unit shown before u → (name : List ℕ) (k : Mark) (w : Written) → IsWellOver AnyValue unit shown out w → NamesItself w → (o : Option Qualident) → w.name ≡ o → Has (IsPut before u name) (typing_as u name k w o)
  put_as before u t name k w g i (Some q) e =
      then_has (TypingOver AnyValue unit shown out (names_of before) (is_some w.name)) (IsPut before u name) (w.typing u name k false) (λ t. sound (equated u name k t)) (g (names_of before) u (known_over unit shown out before u t) name k false)
      (λ t h. record { made = over_back unit shown out before (record { name = name; desc = desc.Alias k t.of } ∷ t.made) (record { based = h.of (ap is_some e); fresh = tt }, h.made); itself = (refl, (record { name = name; desc = desc.Alias k t.of }, (inl refl, refl))) })
  put_as before u t name k w g i None e = put_both before u name (is_some w.name) (w.typing u name k false).node (g (names_of before) u (known_over unit shown out before u t) name k false) (i u name k false e)

  put_types : (before : List TypedType) (u : Around) (name : List ℕ) (o : Option (Mark × Typing)) → IfThere (λ (p : Mark × Typing). Unit {0} × IsPut before u name p.1) o → O before (types_made o)
  put_types before u name None h = tt
  put_types before u name (Some p) h = h.1.made

  own_name : (u : Around) → u.unit ≡ unit → (name : List ℕ) (ts : List TypedType) → HasName ts name → S ts (ref.Named (in_unit u name))
  own_name u e name ts h = subst (λ n. S ts (ref.Named (record { «module» = n; object = name }))) (sym e) (own_stands unit shown out ts name h)

  put_entity : (before : List TypedType) (u : Around) → u.unit ≡ unit → (name : List ℕ) (o : Option (Mark × Typing)) → IfThere (λ (p : Mark × Typing). Unit {0} × IsPut before u name p.1) o → E (types_made o ++ before) (type_entity o)
  put_entity before u e name None h = tt
  put_entity before u e name (Some p) h =
      let i = h.1.itself in
      subst (S (p.1.made ++ before)) (sym i.0) (own_name u e name (p.1.made ++ before) (front p.1.made name i.1))
    where
      front : (ts : List TypedType) (x : List ℕ) → HasName ts x → HasName (ts ++ before) x
      front ts x h = (h.0, (one_left ts before h.0 h.1.0, h.1.1))

  pub type_goes : (d : IdentDef) (w : Written) → IsWellOver AnyValue unit shown out w → NamesItself w → IsGoing (type_declared d w)
  type_goes d w g i before u t =
      let k = newly u d in
      let name = u.path ++ d.ident.name in
      let j = typing_as u name (mark_or_hidden k.node) w w.name in
      let o = (both k j).node in
      let h = second_has (IsPut before u name) k j (put_as before u t name (mark_or_hidden k.node) w g i w.name refl) in
      let ts = types_made o in
      let v = with_types u ts in
      record {
        types = text_made unit shown before ts (put_types before u name o h);
        around = declare_text (ts ++ before) v (types_text (ts ++ before) u (text_more unit shown before (ts ++ before) (grows_front ts before) u t) ts) (found_in_scope v d.ident.name) d.ident (type_entity o) (put_entity before u t.unit_is name o h);
      }

  -- VARIABLES

  variable_stands : (before : List TypedType) (u : Around) (x : Ident) (o : Option (Mark × Typing)) → E before (variable_entity u x o)
  variable_stands before u x None = tt
  variable_stands before u x (Some p) = tt

  variable_none : (x : Ident) (o : Option (Mark × Typing)) → (variable_contents x o).types ≡ []
  variable_none x None = refl
  variable_none x (Some p) = refl

  variables_with_go : (ds : List IdentDef) (t : Option Typing) → IsGoing (variables_with ds t)
  variables_with_go [] t before u k = record { types = tt; around = k }
  variables_with_go (d ∷ ds) t before u k =
      let m = marked u true d in
      let o = paired_typing m.node t in
      let v = declare u d.ident (variable_entity u d.ident o) in
      let mine = variable_contents d.ident o in
      let none = variable_none d.ident o in
      let l : Text unit shown before v = declare_text before u k (found_in_scope u d.ident.name) d.ident (variable_entity u d.ident o) (variable_stands before u d.ident o) in
      goes_then before (record { notes = _; contents = mine }) (variables_with ds t v) (subst (AreInText unit shown before) (sym none) tt) (subst (λ ts. Goes (ts ++ before) (variables_with ds t v)) (sym none) (variables_with_go ds t before v l))

  made_over : (before : List TypedType) (b : Bool) (o : Option Typing) → IfThere (TypingOver AnyValue unit shown out (names_of before) b) o → O before (made_in o)
  made_over before b None h = tt
  made_over before b (Some t) h = over_back unit shown out before t.made h.made

  pub variables_go : (ds : List IdentDef) (w : Written) → IsWellOver AnyValue unit shown out w → IsGoing (variables_declared ds w)
  variables_go ds w g before u t =
      let name = u.path ++ first_name ds ++ codes ":" in
      let j = w.typing u name mark.Hidden false in
      let ts = made_in j.node in
      goes_then before (record { notes = j.notes; contents = record no_contents { types = ts } }) (variables_with ds j.node (with_types u ts))
      (text_made unit shown before ts (made_over before (is_some w.name) j.node (g (names_of before) u (known_over unit shown out before u t) name mark.Hidden false)))
      (variables_with_go ds j.node (ts ++ before) (with_types u ts) (types_text (ts ++ before) u (text_more unit shown before (ts ++ before) (grows_front ts before) u t) ts))

  -- IMPORTS

  import_stands : (before : List TypedType) (b : Bool) (t : Ident) → bytes_eq t.name unit ≡ false → E before (import_entity b t)
  import_stands before true t h = tt
  import_stands before false t h = h

  pub imports_go : (is : List Import) → AllByRecursion (λ (i : Import). bytes_eq (target_of i).name unit ≡ false) is → AllByRecursion IsGoing (map (λ i. import_declared i (target_of i)) is)
  imports_go [] h = tt
  imports_go (i ∷ is) h = ((λ before u t. record { types = tt; around = declare_text before u t (found_in_scope u i.ident.name) i.ident (import_entity (is_system (target_of i).name) (target_of i)) (import_stands before (is_system (target_of i).name) (target_of i) h.0) }), imports_go is h.1)

  -- IN ORDER

  pub order_goes : (fs : List (Around → Declared)) → AllByRecursion IsGoing fs → IsGoing (in_order fs)
  order_goes [] g before u t = record { types = tt; around = t }
  order_goes (f ∷ fs) g before u t =
      let d = f u in
      let a = g.0 before u t in
      goes_then before d.part (in_order fs d.around) a.types (order_goes fs g.1 (d.part.contents.types ++ before) d.around a.around)
