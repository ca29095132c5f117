-- Constants, types and variables of a module, in their order: where a variable is declared its type stands, and is no open array.
use Rattle.std.proofs.Common.{◌≡◌, ⊎_elim, refl, sym, ◌∙◌, subst, ℕ, Bool, true, false, List, [], ◌∷◌, ◌++◌, map, Option, Some, None}
use Rattle.std.specs.Prelude.{bytes_eq, codes}
use Rattle.std.specs.List.{AllByRecursion, filter_map, cons_option}
use Rattle.ob_tree.specs.declared.names.QName.{QName}
use Rattle.ob_tree.specs.declared.ident.Ident.{Ident}
use Rattle.ob_tree.specs.declared.ident.IdentDef.{IdentDef}
use Rattle.ob_tree.specs.declared.ident.Import.{Import}
use Rattle.ob_tree.specs.declared.ident.Mark.{Mark}
use Rattle.ob_tree.specs.declared.ident.Mark.TheVariants as mark
use Rattle.ob_tree.specs.declared.ident.Qualident.{Qualident}
use Rattle.ob_tree.specs.declared.expr.Expr.{Expr}
use Rattle.ob_tree.specs.declared.type_node.TypeNode.{TypeNode}
use Rattle.ob_tree.specs.declared.decl.Decl.{Decl, roll-Decl, map-Decl}
use Rattle.ob_tree.specs.declared.decl.Decl.TheOpen.{Decl-F}
use Rattle.ob_tree.specs.declared.decl.Decl.TheFolds.{ind-Decl, fold-roll-Decl}
use Rattle.ob_types.specs.declared.types.TypeRef.{TypeRef}
use Rattle.ob_types.specs.declared.value.Value.{Value}
use Rattle.ob_types.specs.declared.desc.Desc.{Desc}
use Rattle.ob_types.specs.declared.desc.Desc.TheVariants as desc
use Rattle.ob_types.specs.declared.typed.TypedType.{TypedType}
use Rattle.ob_types.specs.declared.typed.TypedVariable.{TypedVariable}
use Rattle.ob_types.specs.Relations.{is_alias}
use Rattle.ob_rules.specs.declared.entity.Entity.{Entity}
use Rattle.ob_rules.specs.declared.entity.Known.{Known}
use Rattle.ob_rules.specs.Judged.{Judged, sound, both, ◌▷◌}
use Rattle.ob_rules.specs.Shapes.{is_open}
use Rattle.ob_rules.specs.Names.{Around, map_of, found_in_scope, is_out}
use Rattle.ob_rules.specs.Phrases.{Phrase}
use Rattle.ob_rules.specs.Expressions.{phrase_of, constant_value}
use Rattle.ob_rules.specs.Types.{Typing, written, with_types, is_module_level, marked}
use Rattle.ob_rules.specs.Headings.{mark_or_hidden}
use Rattle.ob_rules.specs.Declarations.{no_contents, together, Declared, declare_if, declare, no_nil, constant_entity, constant_contents, constant_declared, equated, typing_as, type_entity, types_made, type_declared, variable_entity, variable_contents, paired_typing, variables_with, first_name, made_in, variables_typed, variables_declared, Declaration, Plain, Procedure, plain_of, in_order, decl_rule, declaration, is_system, import_entity, import_declared, target_of, around_module, newly}
use Rattle.law_typing_forms.specs.Said.{IsOneOf}
use Rattle.law_methods_described.proofs.Nodes.{Has, then_has, second_has}
use Rattle.law_typing.specs.Spelled.{all_true, is_spelled}
use Rattle.law_body_context.specs.Spelled.{type_spelled, decl_layer, decl_spelled}
use Rattle.law_body_context.specs.Knows.{Grows, Stands, IsDescribed, EntityStands, Knows}
use Rattle.law_body_context.proofs.Lists.{one_left, one_right, one_joined, all_of}
use Rattle.law_body_context.proofs.Standing.{Lies, grows_front, stands_grown, with_types_known}
use Rattle.law_body_context.proofs.Typings.{TypingIs, typed_is, ConstantPhrase}
use Rattle.law_body_context.proofs.Written.{written_good as written_stands}
use Rattle.law_builds_ruled.specs.ruled_laws.Variables.{AliasStands}
use Rattle.law_builds_ruled.proofs.ruled_laws.Shut.{NoAliases, TypingShut}
use Rattle.law_builds_ruled.proofs.ruled_laws.Written.{written_good as written_shut}
use Rattle.law_lists.proofs.Lists.{IfThere, all_both, and_parts}

-- whatever values are
abbrev pub Any : Value → Type 0
Any v = Unit {0}

module _ (unit : List ℕ) (shown : QName → Option Desc) (out : is_out unit ≡ false) (all : List TypedType) (Among : TypedType → Type 0) (raw : (s : TypedType) → IsOneOf all s → Among s) where
  abbrev S : List TypedType → TypeRef → Type 0
  S own t = Stands unit shown own t

  abbrev pub AliasesStand : List TypedType → List TypedType → Type 0
  AliasesStand own ts = AllByRecursion (λ s. AliasStands unit shown own s.desc) ts

  -- what is known in the module: aliases stand, and its types are among these
  pub record Fine (u : Around) : Type 0 where
    pub knows : Knows Any unit shown u
    pub aliases : AliasesStand u.own u.own
    pub lies : (s : TypedType) → IsOneOf u.own s → Among s

  -- there its type stands, and is no open array
  pub record VariableIn (v : TypedVariable) : Type 0 where
    pub w : Around
    pub fine : Fine w
    pub stands : S w.own v.of
    pub closed : is_open (map_of w) v.of ≡ false

  pub record DeclaredFine (d : Declared) : Type 0 where
    pub around : Fine d.around
    pub variables : AllByRecursion VariableIn d.part.contents.variables

  abbrev pub IsPlain : (Around → Declared) → Type 0
  IsPlain f = (u : Around) → Fine u → Lies (f u).part.contents.types all → DeclaredFine (f u)

  -- ---- names

  if_declared : (o : Option Known) (u : Around) → Fine u → (x : Ident) (e : Entity) → EntityStands Any unit shown u.own e → Fine (declare_if o u x e)
  if_declared (Some k) u f x e h = f
  if_declared None u f x e h = record { knows = record { unit_is = f.knows.unit_is; shown_is = f.knows.shown_is; own = f.knows.own; known = (h, f.knows.known) }; aliases = f.aliases; lies = f.lies }

  pub name_declared : (u : Around) → Fine u → (x : Ident) (e : Entity) → EntityStands Any unit shown u.own e → Fine (declare u x e)
  name_declared u f x e h = if_declared (found_in_scope u x.name) u f x e h

  -- ---- types

  pub alias_grown : (own more : List TypedType) → Grows own more → (d : Desc) → AliasStands unit shown own d → AliasStands unit shown more d
  alias_grown own more g (desc.Alias m t) h = stands_grown unit shown own more g t h
  alias_grown own more g (desc.Const v) h = tt
  alias_grown own more g (desc.Var m t) h = tt
  alias_grown own more g (desc.Proc s) h = tt
  alias_grown own more g (desc.Array m n t) h = tt
  alias_grown own more g (desc.OpenArray m t) h = tt
  alias_grown own more g (desc.Pointer m t) h = tt
  alias_grown own more g (desc.ProcType m s) h = tt
  alias_grown own more g (desc.Record r) h = tt

  pub aliases_grown : (own more : List TypedType) → Grows own more → (ts : List TypedType) → AliasesStand own ts → AliasesStand more ts
  aliases_grown own more g ts h = all_of (λ (s : TypedType). AliasStands unit shown own s.desc) (λ (s : TypedType). AliasStands unit shown more s.desc) ts (λ s. alias_grown own more g s.desc) h

  no_alias : (own : List TypedType) (d : Desc) → is_alias d ≡ false → AliasStands unit shown own d
  no_alias own (desc.Alias m t) e = absurd cc
  no_alias own (desc.Const v) e = tt
  no_alias own (desc.Var m t) e = tt
  no_alias own (desc.Proc s) e = tt
  no_alias own (desc.Array m n t) e = tt
  no_alias own (desc.OpenArray m t) e = tt
  no_alias own (desc.Pointer m t) e = tt
  no_alias own (desc.ProcType m s) e = tt
  no_alias own (desc.Record r) e = tt

  pub no_aliases : (own ts : List TypedType) → NoAliases ts → AliasesStand own ts
  no_aliases own ts h = all_of (λ (s : TypedType). is_alias s.desc ≡ false) (λ (s : TypedType). AliasStands unit shown own s.desc) ts (λ s. no_alias own s.desc) h

  pub types_fine : (u : Around) → Fine u → (ts : List TypedType) → AllByRecursion (IsDescribed Any) ts → AliasesStand (ts ++ u.own) ts → ((s : TypedType) → IsOneOf ts s → Among s) → Fine (with_types u ts)
  types_fine u f ts h a l = record {
    knows = with_types_known unit shown Any u f.knows ts h;
    aliases = all_both (λ (s : TypedType). AliasStands unit shown (ts ++ u.own) s.desc) ts u.own a (aliases_grown u.own (ts ++ u.own) (grows_front ts u.own) u.own f.aliases);
    lies = λ s i. ⊎_elim (λ j. l s j) (λ j. f.lies s j) (one_joined ts u.own s i);
  }

  -- a type where it is written
  pub record TypingFine (own : List TypedType) (t : Typing) : Type 0 where
    pub made : AllByRecursion (IsDescribed Any) t.made
    pub of : S (t.made ++ own) t.of
    pub aliases : AliasesStand (t.made ++ own) t.made

  pub constants : (x : Expr) → is_spelled x ≡ true → ConstantPhrase Any unit shown out (phrase_of x)
  constants x e u k = sure (constant_value u (phrase_of x)).node
    where
      sure : (o : Option Value) → IfThere Any o
      sure None = tt
      sure (Some v) = tt

  pub pairs : {A : Type 0} (P Q R : A → Type 0) → ((x : A) → P x → Q x → R x) → (o : Option A) → IfThere P o → IfThere Q o → IfThere R o
  pairs P Q R f None h k = tt
  pairs P Q R f (Some x) h k = f x h k

  -- fine, and shut where open arrays may not stand
  pub typing_fine : (n : TypeNode) → type_spelled n ≡ true → (u : Around) → Fine u → (name : List ℕ) (m : Mark) → Has (λ t. TypingFine u.own t × (is_open (map_of (with_types u t.made)) t.of ≡ false)) ((written n).typing u name m false)
  typing_fine n e u f name m =
      let j = (written n).typing u name m false in
      pairs (TypingIs Any unit shown out u.own) (TypingShut u false) (λ t. TypingFine u.own t × (is_open (map_of (with_types u t.made)) t.of ≡ false))
      (λ t h k. (record { made = h.made; of = h.of; aliases = no_aliases (t.made ++ u.own) t.made k.made }, k.shut refl)) j.node
      (written_stands Any unit shown out constants n e u f.knows name m false) (written_shut n u name m false)

  equated_fine : (u : Around) → Fine u → (name : List ℕ) (m : Mark) (t : Typing) → TypingFine u.own t → TypingFine u.own (equated u name m t)
  equated_fine u f name m t h =
      let x : TypedType = record { name = name; desc = desc.Alias m t.of } in
      let g : Grows (t.made ++ u.own) ((x ∷ t.made) ++ u.own) = grows_front (x ∷ []) (t.made ++ u.own) in
      let i = typed_is Any unit shown out u f.knows name (desc.Alias m t.of) t.made refl tt h.made in
      record { made = i.made; of = i.of; aliases = (stands_grown unit shown (t.made ++ u.own) ((x ∷ t.made) ++ u.own) g t.of h.of, aliases_grown (t.made ++ u.own) ((x ∷ t.made) ++ u.own) g t.made h.aliases) }

  as_fine : (n : TypeNode) → type_spelled n ≡ true → (u : Around) → Fine u → (name : List ℕ) (m : Mark) (o : Option Qualident) → Has (TypingFine u.own) (typing_as u name m (written n) o)
  as_fine n e u f name m (Some q) = then_has (λ t. TypingFine u.own t × (is_open (map_of (with_types u t.made)) t.of ≡ false)) (TypingFine u.own) ((written n).typing u name m false) (λ t. sound (equated u name m t)) (typing_fine n e u f name m) (λ t h. equated_fine u f name m t h.0)
  as_fine n e u f name m None = pairs (λ t. TypingFine u.own t × (is_open (map_of (with_types u t.made)) t.of ≡ false)) (λ t. TypingFine u.own t × (is_open (map_of (with_types u t.made)) t.of ≡ false)) (TypingFine u.own) (λ t h k. h.0) ((written n).typing u name m false).node (typing_fine n e u f name m) (typing_fine n e u f name m)

  made_fine : (u : Around) → Fine u → (o : Option (Mark × Typing)) → IfThere (λ p. Unit {0} × TypingFine u.own p.1) o → Lies (types_made o) all → Fine (with_types u (types_made o))
  made_fine u f None h l = types_fine u f [] tt tt (λ s i. raw s (l s i))
  made_fine u f (Some p) h l = types_fine u f p.1.made h.1.made h.1.aliases (λ s i. raw s (l s i))

  entity_fine : (own : List TypedType) (o : Option (Mark × Typing)) → IfThere (λ p. Unit {0} × TypingFine own p.1) o → EntityStands Any unit shown (types_made o ++ own) (type_entity o)
  entity_fine own None h = tt
  entity_fine own (Some p) h = h.1.of

  pub type_plain : (d : IdentDef) (n : TypeNode) → type_spelled n ≡ true → IsPlain (type_declared d (written n))
  type_plain d n e u f l =
      let k = newly u d in
      let t = typing_as u (u.path ++ d.ident.name) (mark_or_hidden k.node) (written n) (written n).name in
      let o = (both k t).node in
      let h = second_has (TypingFine u.own) k t (as_fine n e u f (u.path ++ d.ident.name) (mark_or_hidden k.node) (written n).name) in
      record { around = name_declared (with_types u (types_made o)) (made_fine u f o h l) d.ident (type_entity o) (entity_fine u.own o h); variables = tt }

  -- ---- constants

  constant_known : (own : List TypedType) (o : Option (Mark × Value)) → EntityStands Any unit shown own (constant_entity o)
  constant_known own None = tt
  constant_known own (Some p) = tt

  constant_variables : (b : Bool) (x : Ident) (o : Option (Mark × Value)) → (constant_contents b x o).variables ≡ []
  constant_variables true x None = refl
  constant_variables true x (Some p) = refl
  constant_variables false x o = refl

  pub constant_plain : (d : IdentDef) (x : Phrase) → IsPlain (constant_declared d x)
  constant_plain d x u f l =
      let o = (both (marked u false d) (constant_value u x ▷ no_nil x.start)).node in
      record { around = name_declared u f d.ident (constant_entity o) (constant_known u.own o); variables = subst (AllByRecursion VariableIn) (sym (constant_variables (is_module_level u) d.ident o)) tt }

  -- ---- variables

  variable_known : (u : Around) (own : List TypedType) (x : Ident) (o : Option (Mark × Typing)) → EntityStands Any unit shown own (variable_entity u x o)
  variable_known u own x None = tt
  variable_known u own x (Some p) = tt

  abbrev IsFor : Typing → Type 0
  IsFor t = (x : List ℕ) (m : Mark) → VariableIn (record { name = x; mark = m; of = t.of })

  variable_in : (x : Ident) (m : Option Mark) (t : Option Typing) → IfThere IsFor t → AllByRecursion VariableIn (variable_contents x (paired_typing m t)).variables
  variable_in x (Some m) (Some t) h = (h x.name m, tt)
  variable_in x (Some m) None h = tt
  variable_in x None t h = tt

  variables_fine : (ds : List IdentDef) (t : Option Typing) → IfThere IsFor t → (u : Around) → Fine u → DeclaredFine (variables_with ds t u)
  variables_fine [] t h u f = record { around = f; variables = tt }
  variables_fine (d ∷ ds) t h u f =
      let k = (marked u true d).node in
      let o = paired_typing k t in
      let e = variable_entity u d.ident o in
      let v = declare u d.ident e in
      let r = variables_fine ds t h v (name_declared u f d.ident e (variable_known u u.own d.ident o)) in
      record { around = r.around; variables = all_both VariableIn (variable_contents d.ident o).variables (variables_with ds t v).part.contents.variables (variable_in d.ident k t h) r.variables }

  typed_plain : (ds : List IdentDef) (u : Around) → Fine u → (t : Judged Typing) → Has (λ t. TypingFine u.own t × (is_open (map_of (with_types u t.made)) t.of ≡ false)) t → Lies (variables_typed ds u t).part.contents.types all → DeclaredFine (variables_typed ds u t)
  typed_plain ds u f t h l = by t.node h (λ s i. l s (one_left (made_in t.node) (variables_with ds t.node (with_types u (made_in t.node))).part.contents.types s i))
    where
      by : (o : Option Typing) → IfThere (λ t. TypingFine u.own t × (is_open (map_of (with_types u t.made)) t.of ≡ false)) o → Lies (made_in o) all → DeclaredFine (record { part = record { notes = (variables_typed ds u t).part.notes; contents = together (record no_contents { types = made_in o }) (variables_with ds o (with_types u (made_in o))).part.contents }; around = (variables_with ds o (with_types u (made_in o))).around })
      by None h l = let r = variables_fine ds None tt (with_types u []) (types_fine u f [] tt tt (λ s i. raw s (l s i))) in record { around = r.around; variables = r.variables }
      by (Some s) h l =
          let v = with_types u s.made in
          let g = types_fine u f s.made h.0.made h.0.aliases (λ k i. raw k (l k i)) in
          let r = variables_fine ds (Some s) (λ x m. record { w = v; fine = g; stands = h.0.of; closed = h.1 }) v g in
          record { around = r.around; variables = r.variables }

  pub variables_plain : (ds : List IdentDef) (n : TypeNode) → type_spelled n ≡ true → IsPlain (variables_declared ds (written n))
  variables_plain ds n e u f l = typed_plain ds u f _ (typing_fine n e u f (u.path ++ first_name ds ++ codes ":") mark.Hidden) l

  -- ---- in order

  pub order_plain : (fs : List (Around → Declared)) → AllByRecursion IsPlain fs → IsPlain (in_order fs)
  order_plain [] g u f l = record { around = f; variables = tt }
  order_plain (x ∷ fs) g u f l =
      let d = x u in
      let rest = (in_order fs d.around).part.contents in
      let a = g.0 u f (λ s i. l s (one_left d.part.contents.types rest.types s i)) in
      let r = order_plain fs g.1 d.around a.around (λ s i. l s (one_right d.part.contents.types rest.types s i)) in
      record { around = r.around; variables = all_both VariableIn d.part.contents.variables rest.variables a.variables r.variables }

  -- ---- imports

  import_known : (own : List TypedType) (b : Bool) (t : Ident) → bytes_eq t.name unit ≡ false → EntityStands Any unit shown own (import_entity b t)
  import_known own true t h = tt
  import_known own false t h = h

  pub imports_plain : (is : List Import) → AllByRecursion (λ (i : Import). bytes_eq (target_of i).name unit ≡ false) is → AllByRecursion IsPlain (map (λ i. import_declared i (target_of i)) is)
  imports_plain [] h = tt
  imports_plain (i ∷ is) h = (λ u f l. record { around = name_declared u f i.ident (import_entity (is_system (target_of i).name) (target_of i)) (import_known u.own (is_system (target_of i).name) (target_of i) h.0); variables = tt }, imports_plain is h.1)

  -- ---- declarations

  abbrev GoodDeclaration : Declaration → Type 0
  GoodDeclaration (Plain x f) = IsPlain f
  GoodDeclaration (Procedure p) = Unit {0}

  abbrev PD : Decl → Type 0
  PD x = decl_spelled x ≡ true → GoodDeclaration (declaration x)

  abbrev SD : Type 0
  SD = (x : Decl) × PD x

  layer : (x : Decl-F Decl) → (decl_layer (map-Decl Decl Bool decl_spelled x) ≡ true → GoodDeclaration (decl_rule (map-Decl Decl Declaration declaration x))) → PD (roll-Decl x)
  layer x h e = subst GoodDeclaration (sym (fold-roll-Decl Declaration decl_rule x)) (h (sym (fold-roll-Decl Bool decl_layer x) ∙ e))

  decl_cases : (y : Decl-F SD) → PD (roll-Decl (map-Decl SD Decl (λ x. x.0) y))
  decl_cases (Decl-F.Constant d x) = layer (Decl-F.Constant d x) (λ e. constant_plain d (phrase_of x))
  decl_cases (Decl-F.NamedType d n) = layer (Decl-F.NamedType d n) (λ e. type_plain d n e)
  decl_cases (Decl-F.Variables ds n) = layer (Decl-F.Variables ds n) (λ e. variables_plain ds n e)
  decl_cases (Decl-F.Procedure h ds body closing) = layer (Decl-F.Procedure h (map (λ (x : SD). x.0) ds) body closing) (λ e. tt)
  decl_cases (Decl-F.Forward h) = layer (Decl-F.Forward h) (λ e. tt)

  decl_good : (x : Decl) → PD x
  decl_good = ind-Decl PD (λ x y is. subst (λ z. PD (roll-Decl z)) is (decl_cases y))

  kept : (d : Declaration) (fs : List (Around → Declared)) → GoodDeclaration d → AllByRecursion IsPlain fs → AllByRecursion IsPlain (cons_option (plain_of d) fs)
  kept (Plain x f) fs h k = (h, k)
  kept (Procedure p) fs h k = k

  pub decls_plain : (xs : List Decl) → all_true (map decl_spelled xs) ≡ true → AllByRecursion IsPlain (filter_map plain_of (map declaration xs))
  decls_plain [] e = tt
  decls_plain (x ∷ xs) e = let p = and_parts (decl_spelled x) (all_true (map decl_spelled xs)) e in kept (declaration x) (filter_map plain_of (map declaration xs)) (decl_good x p.0) (decls_plain xs p.1)

  -- ---- at the start

  pub start_fine : (name : List ℕ) (ds : List Declaration) → name ≡ unit → Fine (around_module shown name ds)
  start_fine name ds e = record {
    knows = record { unit_is = e; shown_is = refl; own = tt; known = (tt, (tt, (tt, (tt, (tt, (tt, (tt, (tt, (tt, (tt, (tt, (tt, (tt, (tt, (tt, (tt, (tt, (tt, (tt, (tt, (tt, (tt, (tt, (tt, (tt, (tt, (tt, (tt, (tt, (tt, (tt, tt))))))))))))))))))))))))))))))) };
    aliases = tt;
    lies = λ t i. absurd i;
  }

  -- with other types to come
  pub later_fine : (u : Around) (xs : List (List ℕ)) → Fine u → Fine (record u { later_types = xs })
  later_fine u xs f = record { knows = record { unit_is = f.knows.unit_is; shown_is = f.knows.shown_is; own = f.knows.own; known = f.knows.known }; aliases = f.aliases; lies = f.lies }
