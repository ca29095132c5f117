-- Constants, types and variables that are declared.
use Rattle.std.proofs.Common.{◌≡◌, refl, sym, ap, ◌∙◌, subst, ℕ, Bool, true, false, List, [], ◌∷◌, ◌++◌, Option, Some, None, inl}
use Rattle.std.specs.Prelude.{nat_lt, codes, is_some}
use Rattle.std.specs.List.{AllByRecursion}
use Rattle.ob_tree.specs.declared.pos.Pos.{Pos}
use Rattle.ob_tree.specs.declared.names.QName.{QName}
use Rattle.ob_tree.specs.declared.ident.Ident.{Ident}
use Rattle.ob_tree.specs.declared.ident.IdentDef.{IdentDef}
use Rattle.ob_tree.specs.declared.ident.Mark.{Mark}
use Rattle.ob_tree.specs.declared.ident.Mark.TheVariants as mark
use Rattle.ob_tree.specs.declared.ident.Qualident.{Qualident}
use Rattle.ob_types.specs.declared.types.TypeRef.{TypeRef}
use Rattle.ob_types.specs.declared.value.Value.{Value}
use Rattle.ob_types.specs.declared.value.Value.TheVariants as literal
use Rattle.ob_types.specs.declared.desc.Desc.{Desc}
use Rattle.ob_types.specs.declared.desc.Desc.TheVariants as desc
use Rattle.ob_types.specs.declared.typed.Variable.TheVariants as variable
use Rattle.ob_types.specs.declared.typed.TypedType.{TypedType}
use Rattle.ob_types.specs.declared.typed.TypedProcedure.{TypedProcedure}
use Rattle.ob_types.specs.declared.typed.TypedModule.{TypedModule}
use Rattle.ob_rules.specs.Judged.{Judged, sound, both, ◌▷◌}
use Rattle.ob_rules.specs.Names.{Around, is_out}
use Rattle.ob_rules.specs.Phrases.{Phrase}
use Rattle.ob_rules.specs.Expressions.{constant_value}
use Rattle.ob_rules.specs.Types.{Typing, Written, with_types, is_module_level, marked, nothing}
use Rattle.ob_rules.specs.Headings.{mark_or_hidden}
use Rattle.ob_rules.specs.Declarations.{Contents, no_contents, Declared, declare, no_nil, constant_entity, constant_contents, constant_declared, equated, typing_as, type_entity, types_made, type_declared, variable_of, variable_entity, variable_contents, paired_typing, variables_with, first_name, made_in, variables_declared, in_order, newly}
use Rattle.law_methods_described.proofs.Nodes.{Has, then_has, second_has}
use Rattle.law_typing.specs.Makes.{IfThere}
use Rattle.law_body_context.specs.Knows.{Stands, IsDescribed, EntityStands, Knows}
use Rattle.law_body_context.specs.Judged.{IsInside, VariableStands, NameIs}
use Rattle.law_body_context.proofs.Standing.{Lies, lies_same, lies_front, lies_on}
use Rattle.law_body_context.specs.Order.{IsOver, AreInOrder}
use Rattle.law_body_context.proofs.Lists.{there_of}
use Rattle.law_body_context.proofs.InOrder.{over_same, made_in_order, over_all}
use Rattle.law_body_context.proofs.Typings.{TypingIs, TypingOver, ConstantPhrase, IsGood, IsWellOver, typed_is}
use Rattle.law_body_context.proofs.Levels.{Level, AtModule, Within, frame, IsVariableAt, Included, IsFull, none_full, both_full, first_included, second_included, BlockAt, block_typed, block_declared, declared_own, not_outer, not_module}

module _ (IsConstant : Value → Type 0) (shown : QName → Option Desc) (m : TypedModule) (content : Contents) (out : is_out m.name ≡ false) where
  abbrev S : List TypedType → TypeRef → Type 0
  S own t = Stands m.name shown own t

  abbrev B : Level → Around → Type 0
  B l u = BlockAt IsConstant shown m content l u

  abbrev I : Level → Contents → Type 0
  I l c = Included IsConstant shown m content l c

  abbrev T : List TypedType → Typing → Type 0
  T own t = TypingIs IsConstant m.name shown out own t

  -- a declaration: what stands around what follows it, and that it adds no procedure and no statement
  pub record DeclaredIs (l : Level) (start : Around) (d : Declared) : Type 0 where
    pub around : B l d.around
    pub procedures : d.part.contents.procedures ≡ []
    pub body : d.part.contents.body ≡ []
    pub full : IsFull IsConstant shown m content d.part.contents
    pub lies : Lies d.around.own (d.part.contents.types ++ start.own)
    pub bound : d.part.contents.bound ≡ []
    pub order : AreInOrder m.name shown start.own → AreInOrder m.name shown d.around.own

  abbrev pub IsPlain : (Around → Declared) → Type 0
  IsPlain f = (l : Level) (u : Around) → B l u → I l (f u).part.contents → DeclaredIs l u (f u)

  -- CONSTANTS

  no_nil_is : (at : Pos) (v : Value) → IsConstant v → Has IsConstant (no_nil at v)
  no_nil_is at literal.Nil h = tt
  no_nil_is at (literal.Bool b) h = h
  no_nil_is at (literal.Char c) h = h
  no_nil_is at (literal.Int z) h = h
  no_nil_is at (literal.Set n) h = h
  no_nil_is at (literal.Str text) h = h

  constant_stands : (own : List TypedType) (o : Option (Mark × Value)) → IfThere (λ (p : Mark × Value). Unit {0} × IsConstant p.1) o → EntityStands IsConstant m.name shown own (constant_entity o)
  constant_stands own None h = tt
  constant_stands own (Some p) h = h.1

  constant_name : (own : List TypedType) (p : Option TypedProcedure) (level scope : ℕ) (o : Option (Mark × Value)) → NameIs IsConstant shown m content own p level scope (constant_entity o)
  constant_name own p level scope None = tt
  constant_name own p level scope (Some x) = tt

  constant_adds : (b : Bool) (x : Ident) (o : Option (Mark × Value)) → ((constant_contents b x o).procedures ≡ []) × ((constant_contents b x o).body ≡ [])
  constant_adds true x None = (refl, refl)
  constant_adds true x (Some p) = (refl, refl)
  constant_adds false x o = (refl, refl)

  constant_bound : (b : Bool) (x : Ident) (o : Option (Mark × Value)) → (constant_contents b x o).bound ≡ []
  constant_bound true x None = refl
  constant_bound true x (Some p) = refl
  constant_bound false x o = refl

  constant_full : (b : Bool) (x : Ident) (o : Option (Mark × Value)) → IfThere (λ (p : Mark × Value). Unit {0} × IsConstant p.1) o → IsFull IsConstant shown m content (constant_contents b x o)
  constant_full true x None h = none_full IsConstant shown m content
  constant_full true x (Some p) h = record { constants = (h.1, tt); types = tt; bound = tt; over = tt }
  constant_full false x o h = none_full IsConstant shown m content

  pub constant_plain : (d : IdentDef) (x : Phrase) → ConstantPhrase IsConstant m.name shown out x → IsPlain (constant_declared d x)
  constant_plain d x c l u b i =
      let v : Judged Value = constant_value u x ▷ no_nil x.start in
      let o = (both (marked u false d) v).node in
      let h = second_has IsConstant (marked u false d) v (then_has IsConstant IsConstant (constant_value u x) (no_nil x.start) (c u b.knows) (λ v g. no_nil_is x.start v g)) in
      let a = constant_adds (is_module_level u) d.ident o in
      record {
        around = block_declared IsConstant shown m content l u b d.ident (constant_entity o) (constant_stands u.own o h) (constant_name u.own (frame l) u.level u.scope o);
        procedures = a.0;
        body = a.1;
        full = constant_full (is_module_level u) d.ident o h;
        lies = subst (λ own. Lies own ((constant_contents (is_module_level u) d.ident o).types ++ u.own)) (sym (declared_own IsConstant shown m content u d.ident (constant_entity o))) (lies_front (constant_contents (is_module_level u) d.ident o).types u.own);
        bound = constant_bound (is_module_level u) d.ident o;
        order = λ k. subst (AreInOrder m.name shown) (sym (declared_own IsConstant shown m content u d.ident (constant_entity o))) k;
      }

  -- TYPES

  as_good : (u : Around) → Knows IsConstant m.name shown u → (name : List ℕ) (k : Mark) (w : Written) → IsGood IsConstant m.name shown out w → (o : Option Qualident) → Has (T u.own) (typing_as u name k w o)
  as_good u k name mk w g (Some q) = then_has (T u.own) (T u.own) (w.typing u name mk false) (λ t. sound (equated u name mk t)) (g u k name mk false) (λ t h. typed_is IsConstant m.name shown out u k name (desc.Alias mk t.of) t.made refl tt h.made)
  as_good u k name mk w g None = g u k name mk false

  abbrev O : List TypedType → List TypedType → Type 0
  O own ts = AllByRecursion (IsOver (S own)) ts

  as_over : (u : Around) → Knows IsConstant m.name shown u → (name : List ℕ) (k : Mark) (w : Written) → IsWellOver IsConstant m.name shown out w → (o : Option Qualident) → w.name ≡ o → Has (λ (t : Typing). O u.own t.made) (typing_as u name k w o)
  as_over u b name mk w g (Some q) e =
      then_has (TypingOver IsConstant m.name shown out u.own (is_some w.name)) (λ (t : Typing). O u.own t.made) (w.typing u name mk false) (λ t. sound (equated u name mk t)) (g u.own u (over_same IsConstant m.name shown u b) name mk false)
      (λ t h. (record { based = h.of (ap is_some e); fresh = tt }, h.made))
  as_over u b name mk w g None e = there_of (TypingOver IsConstant m.name shown out u.own (is_some w.name)) (λ (t : Typing). O u.own t.made) (w.typing u name mk false).node (λ t h. h.made) (g u.own u (over_same IsConstant m.name shown u b) name mk false)

  types_over : (own : List TypedType) (o : Option (Mark × Typing)) → IfThere (λ (p : Mark × Typing). Unit {0} × O own p.1.made) o → O own (types_made o)
  types_over own None h = tt
  types_over own (Some p) h = h.1

  type_made : (own : List TypedType) (o : Option (Mark × Typing)) → IfThere (λ (p : Mark × Typing). Unit {0} × T own p.1) o → AllByRecursion (IsDescribed IsConstant) (types_made o)
  type_made own None h = tt
  type_made own (Some p) h = h.1.made

  type_stands : (own : List TypedType) (o : Option (Mark × Typing)) → IfThere (λ (p : Mark × Typing). Unit {0} × T own p.1) o → EntityStands IsConstant m.name shown (types_made o ++ own) (type_entity o)
  type_stands own None h = tt
  type_stands own (Some p) h = h.1.of

  type_name : (own : List TypedType) (p : Option TypedProcedure) (level scope : ℕ) (o : Option (Mark × Typing)) → NameIs IsConstant shown m content own p level scope (type_entity o)
  type_name own p level scope None = tt
  type_name own p level scope (Some x) = tt

  pub type_plain : (d : IdentDef) (w : Written) → IsGood IsConstant m.name shown out w → IsWellOver IsConstant m.name shown out w → IsPlain (type_declared d w)
  type_plain d w g y l u b i =
      let k = newly u d in
      let t = typing_as u (u.path ++ d.ident.name) (mark_or_hidden k.node) w w.name in
      let o = (both k t).node in
      let h = second_has (T u.own) k t (as_good u b.knows (u.path ++ d.ident.name) (mark_or_hidden k.node) w g w.name) in
      let v = with_types u (types_made o) in
      let over = types_over u.own o (second_has (λ (t : Typing). O u.own t.made) k t (as_over u b.knows (u.path ++ d.ident.name) (mark_or_hidden k.node) w y w.name refl)) in
      record {
        around = block_declared IsConstant shown m content l v (block_typed IsConstant shown m content l u b (types_made o) (type_made u.own o h) i.types (λ y j. inl (i.made y j))) d.ident (type_entity o) (type_stands u.own o h) (type_name v.own (frame l) u.level u.scope o);
        procedures = refl;
        body = refl;
        full = record { constants = tt; types = type_made u.own o h; bound = tt; over = over_all m.name shown u.own m.types b.grown (types_made o) over };
        lies = subst (λ own. Lies own (types_made o ++ u.own)) (sym (declared_own IsConstant shown m content v d.ident (type_entity o))) (lies_same (types_made o ++ u.own));
        bound = refl;
        order = λ k. subst (AreInOrder m.name shown) (sym (declared_own IsConstant shown m content v d.ident (type_entity o))) (made_in_order m.name shown u.own (types_made o) over k);
      }

  -- VARIABLES

  unsound_name : (u : Around) (x : Ident) (o : Option (Mark × Typing)) → EntityStands IsConstant m.name shown u.own (variable_entity u x o)
  unsound_name u x None = tt
  unsound_name u x (Some p) = tt

  variable_inside : (p : Option TypedProcedure) (own : List TypedType) (x : Ident) (k : Mark) (t : TypeRef) → IsVariableAt IsConstant shown m content (Within p) (record { name = x.name; mark = k; of = t }) → S own t → IsInside (S own) p (variable.Local x.name) t
  variable_inside None own x k t h s = tt
  variable_inside (Some p) own x k t h s = (inl (record { name = x.name; mark = k; of = t }, (h, (refl, refl))), s)

  variable_stands : (l : Level) (u : Around) → B l u → (x : Ident) (k : Mark) (t : TypeRef) → S u.own t → IsVariableAt IsConstant shown m content l (record { name = x.name; mark = k; of = t }) → VariableStands IsConstant shown m content u.own (frame l) u.level u.scope (variable_of (is_module_level u) u x.name) t
  variable_stands AtModule u b x k t s i =
      let n : variable_of (is_module_level u) u x.name ≡ variable.Module m.name x.name = ap (λ (p : List ℕ). variable_of (nothing p) u x.name) b.placed.0 ∙ ap (λ n. variable.Module n x.name) b.knows.unit_is in
      record {
        outside = λ e. ((record { name = x.name; mark = k; of = t }, (i, (n, refl))), s);
        inside = λ e f. absurd (not_outer IsConstant shown m content (ap (λ n. nat_lt 1 n) (sym b.placed.1.0) ∙ e));
      }
  variable_stands (Within p) u b x k t s i =
      let n : variable_of (is_module_level u) u x.name ≡ variable.Local x.name = ap (λ c. variable_of c u x.name) b.placed.0 in
      record {
        outside = λ e. absurd (not_module IsConstant shown m content u.scope b.placed.1.1 e);
        inside = λ e f. subst (λ v. IsInside (S u.own) p v t) (sym n) (variable_inside p u.own x k t i s);
      }

  variable_name : (l : Level) (u : Around) → B l u → (x : Ident) (k : Option Mark) (t : Option Typing) → IfThere (λ t. S u.own t.of) t → I l (variable_contents x (paired_typing k t)) → NameIs IsConstant shown m content u.own (frame l) u.level u.scope (variable_entity u x (paired_typing k t))
  variable_name l u b x (Some k) (Some t) h i = variable_stands l u b x k t.of h (i.variables (record { name = x.name; mark = k; of = t.of }) (inl refl))
  variable_name l u b x (Some k) None h i = tt
  variable_name l u b x None t h i = tt

  variable_adds : (x : Ident) (o : Option (Mark × Typing)) → ((variable_contents x o).procedures ≡ []) × ((variable_contents x o).body ≡ [])
  variable_adds x None = (refl, refl)
  variable_adds x (Some p) = (refl, refl)

  variable_bound : (x : Ident) (o : Option (Mark × Typing)) → (variable_contents x o).bound ≡ []
  variable_bound x None = refl
  variable_bound x (Some p) = refl

  variable_full : (x : Ident) (o : Option (Mark × Typing)) → IsFull IsConstant shown m content (variable_contents x o)
  variable_full x None = none_full IsConstant shown m content
  variable_full x (Some p) = record { constants = tt; types = tt; bound = tt; over = tt }

  pub two_empty : {A : Type 0} (xs ys : List A) → xs ≡ [] → ys ≡ [] → xs ++ ys ≡ []
  two_empty xs ys e f = ap (λ l. l ++ ys) e ∙ f

  variables_plain : (ds : List IdentDef) (t : Option Typing) (l : Level) (u : Around) → B l u → IfThere (λ t. S u.own t.of) t → I l (variables_with ds t u).part.contents → DeclaredIs l u (variables_with ds t u)
  variables_plain [] t l u b h i = record { around = b; procedures = refl; body = refl; full = none_full IsConstant shown m content; lies = lies_same u.own; bound = refl; order = λ k. k }
  variables_plain (d ∷ ds) t l u b h i =
      let k = (marked u true d).node in
      let o = paired_typing k t in
      let e = variable_entity u d.ident o in
      let v = declare u d.ident e in
      let mine = variable_contents d.ident o in
      let rest = (variables_with ds t v).part.contents in
      let c = block_declared IsConstant shown m content l u b d.ident e (unsound_name u d.ident o) (variable_name l u b d.ident k t h (first_included IsConstant shown m content l mine rest i)) in
      let r = variables_plain ds t l v c (subst (λ own. IfThere (λ t. S own t.of) t) (sym (declared_own IsConstant shown m content u d.ident e)) h) (second_included IsConstant shown m content l mine rest i) in
      let a = variable_adds d.ident o in
      let r_own = (variables_with ds t v).around.own in
      record { around = r.around; procedures = two_empty mine.procedures rest.procedures a.0 r.procedures; body = two_empty mine.body rest.body a.1 r.body; full = both_full IsConstant shown m content mine rest (variable_full d.ident o) r.full; lies = lies_on mine.types rest.types u.own v.own r_own (subst (λ own. Lies own (mine.types ++ u.own)) (sym (declared_own IsConstant shown m content u d.ident e)) (lies_front mine.types u.own)) r.lies; bound = two_empty mine.bound rest.bound (variable_bound d.ident o) r.bound; order = λ k. r.order (subst (AreInOrder m.name shown) (sym (declared_own IsConstant shown m content u d.ident e)) k) }

  in_made : (own : List TypedType) (o : Option Typing) → IfThere (T own) o → AllByRecursion (IsDescribed IsConstant) (made_in o)
  in_made own None h = tt
  in_made own (Some t) h = h.made

  in_stands : (own : List TypedType) (o : Option Typing) → IfThere (T own) o → IfThere (λ t. S (made_in o ++ own) t.of) o
  in_stands own None h = tt
  in_stands own (Some t) h = h.of

  in_over : (own : List TypedType) (o : Option Typing) (b : Bool) → IfThere (TypingOver IsConstant m.name shown out own b) o → O own (made_in o)
  in_over own None b h = tt
  in_over own (Some t) b h = h.made

  pub variables_declared_plain : (ds : List IdentDef) (w : Written) → IsGood IsConstant m.name shown out w → IsWellOver IsConstant m.name shown out w → IsPlain (variables_declared ds w)
  variables_declared_plain ds w g y l u b i =
      let t = w.typing u (u.path ++ first_name ds ++ codes ":") mark.Hidden false in
      let h : Has (T u.own) t = g u b.knows (u.path ++ first_name ds ++ codes ":") mark.Hidden false in
      let over = in_over u.own t.node (is_some w.name) (y u.own u (over_same IsConstant m.name shown u b.knows) (u.path ++ first_name ds ++ codes ":") mark.Hidden false) in
      let v = with_types u (made_in t.node) in
      let mine : Contents = record no_contents { types = made_in t.node } in
      let r = variables_plain ds t.node l v (block_typed IsConstant shown m content l u b (made_in t.node) (in_made u.own t.node h) (first_included IsConstant shown m content l mine (variables_with ds t.node v).part.contents i).types (λ y j. inl ((first_included IsConstant shown m content l mine (variables_with ds t.node v).part.contents i).made y j))) (in_stands u.own t.node h) (second_included IsConstant shown m content l mine (variables_with ds t.node v).part.contents i) in
      record { around = r.around; procedures = r.procedures; body = r.body; full = both_full IsConstant shown m content mine (variables_with ds t.node v).part.contents (record { constants = tt; types = in_made u.own t.node h; bound = tt; over = over_all m.name shown u.own m.types b.grown (made_in t.node) over }) r.full; lies = lies_on (made_in t.node) (variables_with ds t.node v).part.contents.types u.own v.own (variables_with ds t.node v).around.own (lies_same v.own) r.lies; bound = r.bound; order = λ k. r.order (made_in_order m.name shown u.own (made_in t.node) over k) }

  -- IN ORDER

  pub order_plain : (fs : List (Around → Declared)) → AllByRecursion IsPlain fs → IsPlain (in_order fs)
  order_plain [] g l u b i = record { around = b; procedures = refl; body = refl; full = none_full IsConstant shown m content; lies = lies_same u.own; bound = refl; order = λ k. k }
  order_plain (f ∷ fs) g l u b i =
      let d = f u in
      let rest = in_order fs d.around in
      let a = g.0 l u b (first_included IsConstant shown m content l d.part.contents rest.part.contents i) in
      let r = order_plain fs g.1 l d.around a.around (second_included IsConstant shown m content l d.part.contents rest.part.contents i) in
      record { around = r.around; procedures = two_empty d.part.contents.procedures rest.part.contents.procedures a.procedures r.procedures; body = two_empty d.part.contents.body rest.part.contents.body a.body r.body; full = both_full IsConstant shown m content d.part.contents rest.part.contents a.full r.full; lies = lies_on d.part.contents.types rest.part.contents.types u.own d.around.own rest.around.own a.lies r.lies; bound = two_empty d.part.contents.bound rest.part.contents.bound a.bound r.bound; order = λ k. r.order (a.order k) }
