-- Constants, types and variables that are declared, in their order.
use Rattle.std.proofs.Common.{◌≡◌, ⊎_elim, inr, refl, sym, ap, subst, ◌∙◌, ℕ, Bool, true, false, List, [], ◌∷◌, ◌++◌, Option, Some, None, append_assoc, append-nil, codes}
use Rattle.std.specs.Prelude.{bytes_eq, ◌||◌, is_some}
use Rattle.std.specs.List.{AllByRecursion, cons_option}
use Rattle.ob_tree.specs.declared.pos.Pos.{Pos}
use Rattle.ob_tree.specs.declared.names.QName.{QName}
use Rattle.ob_tree.specs.declared.ident.Ident.{Ident}
use Rattle.ob_tree.specs.declared.ident.IdentDef.{IdentDef}
use Rattle.ob_tree.specs.declared.ident.Mark.{Mark}
use Rattle.ob_tree.specs.declared.ident.Mark.TheVariants as mark
use Rattle.ob_tree.specs.declared.ident.Qualident.{Qualident}
use Rattle.ob_types.specs.declared.types.TypeRef.{TypeRef}
use Rattle.ob_types.specs.declared.value.Value.{Value}
use Rattle.ob_types.specs.declared.value.Value.TheVariants as literal
use Rattle.ob_types.specs.declared.desc.Desc.{Desc}
use Rattle.ob_types.specs.declared.desc.Desc.TheVariants as desc
use Rattle.ob_types.specs.declared.typed.TypedType.{TypedType}
use Rattle.ob_types.specs.declared.typed.TypedVariable.{TypedVariable}
use Rattle.ob_rules.specs.declared.notes.Later.{Later}
use Rattle.ob_rules.specs.declared.entity.Entity.{Entity}
use Rattle.ob_rules.specs.declared.entity.Known.{Known}
use Rattle.ob_rules.specs.declared.broken.Rule.TheVariants as rule
use Rattle.ob_rules.specs.Judged.{Judged, both, made, notes_if, ◌▷◌}
use Rattle.ob_rules.specs.Names.{Around, found_in_scope, is_among, is_out}
use Rattle.ob_rules.specs.Phrases.{Phrase}
use Rattle.ob_rules.specs.Expressions.{constant_value}
use Rattle.ob_rules.specs.Types.{Typing, Written, with_types, is_module_level, marked}
use Rattle.ob_rules.specs.Headings.{mark_or_hidden}
use Rattle.ob_rules.specs.Declarations.{Declared, declare_if, no_nil, constant_entity, constant_contents, constant_declared, equated, typing_as, type_entity, types_made, type_declared, variable_of, variable_entity, variable_contents, paired_typing, variable_marked, variables_with, made_in, behind_part, variables_declared, first_name, twice, newly, of_new, later_if_new}
use Rattle.law_typing_forms.specs.Said.{IsOneOf}
use Rattle.law_typing.specs.Makes.{IfThere}
use Rattle.law_simulation_relation.proofs.Names.{bytes_true}
use Rattle.law_names_procedures.proofs.Judges.{Has, Speaks, then_speaks, both_speak, breaks_speaks}
use Rattle.law_names_procedures.proofs.Knowing.{IsKnown, AreKnown}
use Rattle.law_names_procedures.proofs.Typings.{constant_speaks, mark_speaks, newly_has}
use Rattle.law_local_module.proofs.Leaves.{Nil, then_nil, both_nil}
use Rattle.law_local_module.proofs.Typings.{LengthNil, constant_nil, mark_nil}
use Rattle.law_body_context.specs.Knows.{HasName, EntityStands}
use Rattle.law_body_context.proofs.Lists.{one_left, one_right, one_joined, all_of}
use Rattle.law_body_context.proofs.Standing.{Lies, lies_same, lies_front, lies_behind, grows_as, grows_front, grows_behind, stands_grown, all_grown}
use Rattle.law_acyclic.proofs.Tells.{Tell, made_tell, both_tell, tell_more}
use Rattle.law_acyclic.proofs.Firm.{AnyValue, S, Closed, closed_more, AreFirm, FirmAt, are_more}
use Rattle.law_acyclic.proofs.Typings.{Tells, AreTold, are_told_more, nil_tell, Place, IsTyping, IsFirm, typed_firm, with_place}
use Rattle.law_acyclic.proofs.Sections.{E, known_place}
use Rattle.law_lists.proofs.Lists.{Anything, all_both, back_empty, front_empty}

twice_nil : (b : Bool) (at : Pos) → (notes_if b rule.DeclaredTwice at).later ≡ []
twice_nil true at = refl
twice_nil false at = refl

nil_nil : (at : Pos) (v : Value) → Nil (no_nil at v)
nil_nil at literal.Nil = refl
nil_nil at v = refl

nil_speaks : (at : Pos) (v : Value) → Speaks Anything (no_nil at v)
nil_speaks at literal.Nil = breaks_speaks {A = Value} Anything rule.NotConstant at
nil_speaks at v = λ e. tt

module _ (unit : List ℕ) (shown : QName → Option Desc) (out : is_out unit ≡ false) (path : List ℕ) (names : List (List ℕ)) where
  abbrev T : List TypedType → TypeRef → Type 0
  T own t = S unit shown own t

  abbrev IsPlace : Around → Type 0
  IsPlace u = Place unit shown out path names u

  abbrev Are : List Later → List TypedType → List TypedType → Type 0
  Are ls own ts = AreFirm unit shown path names ls own ts

  abbrev EK : List TypedType → Known → Type 0
  EK own k = E unit shown out path names own k

  -- the type of a variable
  abbrev pub VariableFirm : List TypedType → TypedVariable → Type 0
  VariableFirm own x = T own x.of × Closed unit shown (IsOneOf own) x.of

  -- What declarations are: what stands around what follows them, and the types that they make, which are firm.
  pub record AreDeclared (Named : List TypedType → Type 0) (u : Around) (d : Declared) : Type 0 where
    pub more : List Known
    pub made : List TypedType
    pub around : d.around ≡ record u { known = more; own = made ++ u.own }
    pub firm : Are d.part.notes.later (made ++ u.own) made
    pub told : AreTold made d.part.notes.later
    pub known : AreKnown more
    pub entities : AllByRecursion (EK (made ++ u.own)) more
    pub named : Named made
    pub types : Lies made d.part.contents.types
    pub back : Lies d.part.contents.types made
    pub variables : AllByRecursion (VariableFirm (made ++ u.own)) d.part.contents.variables
    pub bound : d.part.contents.bound ≡ []
    pub procedures : d.part.contents.procedures ≡ []

  -- one with that name, and all of these names
  abbrev pub HasOne : Option (List ℕ) → List TypedType → Type 0
  HasOne o made = IfThere (λ x. HasName made (path ++ x)) o

  abbrev pub HasAll : List (List ℕ) → List TypedType → Type 0
  HasAll xs made = (x : List ℕ) → is_among x xs ≡ true → HasName made (path ++ x)

  abbrev pub GoodPlain : Option (List ℕ) → (Around → Declared) → Type 0
  GoodPlain o f = (u : Around) → IsPlace u → (f u).part.notes.broken ≡ [] → AreDeclared (HasOne o) u (f u)

  declare_is : (o : Option Known) (u : Around) (x : Ident) (e : Entity) → declare_if o u x e ≡ record u { known = (declare_if o u x e).known }
  declare_is (Some k) u x e = refl
  declare_is None u x e = refl

  declare_known : (own : List TypedType) (o : Option Known) (u : Around) (x : Ident) (e : Entity) → AreKnown u.known → AllByRecursion (EK own) u.known → IsKnown e → EntityStands AnyValue unit shown own e → AreKnown (declare_if o u x e).known × AllByRecursion (EK own) (declare_if o u x e).known
  declare_known own (Some k) u x e h i j s = (h, i)
  declare_known own None u x e h i j s = ((j, h), (s, i))

  -- where more types and names are known
  pub next_place : (u : Around) → IsPlace u → (ls : List Later) (made : List TypedType) (more : List Known) → Are ls (made ++ u.own) made → AreKnown more → AllByRecursion (EK (made ++ u.own)) more → IsPlace (record u { known = more; own = made ++ u.own })
  next_place u k ls made more f h e = known_place unit shown out path names (with_types u made) (with_place unit shown out path names u k ls made f) more h e

  -- ---- constants

  constant_none : (b : Bool) (x : Ident) (o : Option (Mark × Value)) → ((constant_contents b x o).types ≡ []) × (((constant_contents b x o).variables ≡ []) × (((constant_contents b x o).bound ≡ []) × ((constant_contents b x o).procedures ≡ [])))
  constant_none true x None = (refl, (refl, (refl, refl)))
  constant_none true x (Some p) = (refl, (refl, (refl, refl)))
  constant_none false x o = (refl, (refl, (refl, refl)))

  constant_is : (own : List TypedType) (o : Option (Mark × Value)) → Has (λ p. Unit {0} × Unit {0}) o → IsKnown (constant_entity o) × EntityStands AnyValue unit shown own (constant_entity o)
  constant_is own None h = absurd h
  constant_is own (Some p) h = (tt, tt)

  pub constant_firm : (d : IdentDef) (x : Phrase) → LengthNil x → GoodPlain None (constant_declared d x)
  constant_firm d x n u k e =
      let v = constant_value u x ▷ no_nil x.start in
      let j = both (marked u false d) v in
      let f : j.notes.broken ≡ [] = front_empty j.notes.broken (twice u d.ident).broken e in
      let h = both_speak Anything Anything (marked u false d) v (mark_speaks u false d) (then_speaks Anything Anything (constant_value u x) (no_nil x.start) (constant_speaks u x) (λ w i. nil_speaks x.start w)) f in
      let i = constant_is u.own j.node h in
      let c = constant_none (is_module_level u) d.ident j.node in
      let r = declare_known u.own (found_in_scope u d.ident.name) u d.ident (constant_entity j.node) k.sound k.knows.known i.0 i.1 in
      let l : j.notes.later ++ (twice u d.ident).later ≡ [] = ap (λ ls. ls ++ (twice u d.ident).later) (both_nil (marked u false d) v (mark_nil u false d) (then_nil (constant_value u x) (no_nil x.start) (constant_nil u x n) (λ w. nil_nil x.start w))) ∙ twice_nil (is_some (found_in_scope u d.ident.name)) d.ident.pos in
      record {
        more = (declare_if (found_in_scope u d.ident.name) u d.ident (constant_entity j.node)).known;
        made = [];
        around = declare_is (found_in_scope u d.ident.name) u d.ident (constant_entity j.node);
        firm = tt;
        told = subst (AreTold []) (sym l) tt;
        known = r.0;
        entities = r.1;
        named = tt;
        types = λ t i. absurd i;
        back = subst (λ ts. Lies ts []) (sym c.0) (lies_same []);
        variables = subst (AllByRecursion (VariableFirm u.own)) (sym c.1.0) tt;
        bound = c.1.1.0;
        procedures = c.1.1.1;
      }

  -- ---- types

  pub record IsNamed (u : Around) (name : List ℕ) (ls : List Later) (t : Typing) : Type 0 where
    pub of : T (t.made ++ u.own) t.of
    pub made : Are ls (t.made ++ u.own) t.made
    pub told : AreTold t.made ls
    pub named : HasName t.made name

  as_firm : (u : Around) → IsPlace u → (name : List ℕ) (m : Mark) (w : Written) → IsFirm unit shown out path names w → (o : Option Qualident) → w.name ≡ o → Tell (IsNamed u name) (typing_as u name m w o)
  as_firm u k name m w g (Some q) e =
      let j = w.typing u name m false in
      made_tell (IsTyping unit shown out path names u name w.name false) (IsNamed u name) (equated u name m) j (g u k name m false)
      (λ t h.
      let s : TypedType = record { name = name; desc = desc.Alias m t.of } in
      let r = typed_firm unit shown out path names u k name true (desc.Alias m t.of) t.made j.notes.later j.notes.later (inr refl) (λ l i. i) (h.of, h.closed refl) h.made (are_told_more t.made (s ∷ t.made) (λ x i. inr i) j.notes.later h.told) in
      record { of = r.of; made = r.made; told = r.told; named = r.named refl })
  as_firm u k name m w g None e = tell_more (IsTyping unit shown out path names u name w.name false) (IsNamed u name) (w.typing u name m false) (g u k name m false) (λ t h. record { of = h.of; made = h.made; told = h.told; named = h.named e })

  abbrev IsPairNamed : Around → List ℕ → List Later → Mark × Typing → Type 0
  IsPairNamed u name ls p = IsNamed u name ls p.1

  type_is : (u : Around) (name : List ℕ) (ls : List Later) (o : Option (Mark × Typing)) → Has (IsPairNamed u name ls) o → (IsKnown (type_entity o) × EntityStands AnyValue unit shown (types_made o ++ u.own) (type_entity o)) × (Are ls (types_made o ++ u.own) (types_made o) × (AreTold (types_made o) ls × HasName (types_made o) name))
  type_is u name ls None h = absurd h
  type_is u name ls (Some p) h = ((tt, h.of), (h.made, (h.told, h.named)))

  not_found : (o : Option Known) (at : Pos) → (notes_if (is_some o) rule.DeclaredTwice at).broken ≡ [] → o ≡ None
  not_found None at e = refl
  not_found (Some k) at e = absurd cc

  pub type_firm : (d : IdentDef) (w : Written) → IsFirm unit shown out path names w → GoodPlain (Some d.ident.name) (type_declared d w)
  type_firm d w g u k e =
      let m = newly u d in
      let name = u.path ++ d.ident.name in
      let t = typing_as u name (mark_or_hidden m.node) w w.name in
      let j = both m t in
      let f : j.notes.broken ≡ [] = front_empty j.notes.broken (twice u d.ident).broken e in
      let h : Has (IsPairNamed u name j.notes.later) j.node =
      both_tell (λ ls (x : Mark). ls ≡ []) (IsNamed u name) (IsPairNamed u name) m t (nil_tell Anything (λ ls x. ls ≡ []) m (mark_nil u false d) (λ i. newly_has u d (back_empty j.notes.broken (twice u d.ident).broken e) (mark_speaks u false d i)) (λ x i. refl)) (as_firm u k name (mark_or_hidden m.node) w g w.name refl)
      (λ x y i l. subst (λ ls. IsNamed u name (ls ++ t.notes.later) y) (sym i) l) f in
      let r = type_is u name j.notes.later j.node h in
      let made = types_made j.node in
      let v = with_types u made in
      let new : found_in_scope u d.ident.name ≡ None = not_found (found_in_scope u d.ident.name) d.ident.pos (back_empty j.notes.broken (twice u d.ident).broken e) in
      let later : j.notes.later ≡ (of_new u d.ident j.notes).later ++ (twice u d.ident).later =
      sym (append-nil j.notes.later) ∙ ap (λ ls. j.notes.later ++ ls) (sym (twice_nil (is_some (found_in_scope u d.ident.name)) d.ident.pos))
      ∙ ap (λ o. later_if_new o j.notes.later ++ (twice u d.ident).later) (sym new) in
      let c = declare_known v.own (found_in_scope v d.ident.name) v d.ident (type_entity j.node) k.sound (all_grown unit shown AnyValue u.own v.own (grows_front made u.own) u.known k.knows.known) r.0.0 r.0.1 in
      record {
        more = (declare_if (found_in_scope v d.ident.name) v d.ident (type_entity j.node)).known;
        made = made;
        around = declare_is (found_in_scope v d.ident.name) v d.ident (type_entity j.node);
        firm = subst (λ ls. Are ls v.own made) later r.1.0;
        told = subst (AreTold made) later r.1.1.0;
        known = c.0;
        entities = c.1;
        named = subst (λ (p : List ℕ). HasName made (p ++ d.ident.name)) k.path_is r.1.1.1;
        types = lies_same made;
        back = lies_same made;
        variables = tt;
        bound = refl;
        procedures = refl;
      }

  -- ---- variables

  -- only more is known behind them, and the variables have the type
  pub record VariablesAre (t : TypeRef) (own : List TypedType) (u : Around) (d : Declared) : Type 0 where
    pub more : List Known
    pub around : d.around ≡ record u { known = more }
    pub known : AreKnown more
    pub entities : AllByRecursion (EK own) more
    pub later : d.part.notes.later ≡ []
    pub types : d.part.contents.types ≡ []
    pub variables : AllByRecursion (λ (x : TypedVariable). x.of ≡ t) d.part.contents.variables
    pub bound : d.part.contents.bound ≡ []
    pub procedures : d.part.contents.procedures ≡ []

  variable_is : (own : List TypedType) (u : Around) (x : Ident) (m : Option Mark) (t : Typing) → Has Anything m → IsKnown (variable_entity u x (paired_typing m (Some t))) × EntityStands AnyValue unit shown own (variable_entity u x (paired_typing m (Some t)))
  variable_is own u x None t h = absurd h
  variable_is own u x (Some m) t h = (tt, tt)

  variable_none : (x : Ident) (o : Option (Mark × Typing)) → ((variable_contents x o).types ≡ []) × (((variable_contents x o).bound ≡ []) × ((variable_contents x o).procedures ≡ []))
  variable_none x None = (refl, (refl, refl))
  variable_none x (Some p) = (refl, (refl, refl))

  variable_of_type : (x : Ident) (m : Option Mark) (t : Typing) → AllByRecursion (λ (y : TypedVariable). y.of ≡ t.of) (variable_contents x (paired_typing m (Some t))).variables
  variable_of_type x None t = tt
  variable_of_type x (Some m) t = (refl, tt)

  variables_are : (own : List TypedType) (ds : List IdentDef) (t : Typing) (u : Around) → AreKnown u.known → AllByRecursion (EK own) u.known → (variables_with ds (Some t) u).part.notes.broken ≡ [] → VariablesAre t.of own u (variables_with ds (Some t) u)
  variables_are own [] t u k s e = record { more = u.known; around = refl; known = k; entities = s; later = refl; types = refl; variables = tt; bound = refl; procedures = refl }
  variables_are own (d ∷ ds) t u k s e =
      let m = marked u true d in
      let a = variable_marked u d.ident m (Some t) in
      let v = a.around in
      let rest = variables_with ds (Some t) v in
      let h = mark_speaks u true d (front_empty m.notes.broken (twice u d.ident).broken (front_empty a.part.notes.broken rest.part.notes.broken e)) in
      let p = paired_typing m.node (Some t) in
      let n = variable_entity u d.ident p in
      let i = variable_is own u d.ident m.node t h in
      let c = declare_known own (found_in_scope u d.ident.name) u d.ident n k s i.0 i.1 in
      let z = variable_none d.ident p in
      let r = variables_are own ds t v c.0 c.1 (back_empty a.part.notes.broken rest.part.notes.broken e) in
      record {
        more = r.more;
        around = r.around ∙ ap (λ (z : Around). record z { known = r.more }) (declare_is (found_in_scope u d.ident.name) u d.ident n);
        known = r.known;
        entities = r.entities;
        later = ap (λ ls. (ls ++ (twice u d.ident).later) ++ rest.part.notes.later) (mark_nil u true d) ∙ ap (λ ls. ls ++ rest.part.notes.later) (twice_nil (is_some (found_in_scope u d.ident.name)) d.ident.pos) ∙ r.later;
        types = ap (λ ts. ts ++ rest.part.contents.types) z.0 ∙ r.types;
        variables = all_both (λ (y : TypedVariable). y.of ≡ t.of) (variable_contents d.ident p).variables rest.part.contents.variables (variable_of_type d.ident m.node t) r.variables;
        bound = ap (λ ts. ts ++ rest.part.contents.bound) z.1.0 ∙ r.bound;
        procedures = ap (λ ts. ts ++ rest.part.contents.procedures) z.1.1 ∙ r.procedures;
      }

  all_firm : (own : List TypedType) (t : TypeRef) → T own t → Closed unit shown (IsOneOf own) t → (xs : List TypedVariable) → AllByRecursion (λ (x : TypedVariable). x.of ≡ t) xs → AllByRecursion (VariableFirm own) xs
  all_firm own t h c [] e = tt
  all_firm own t h c (x ∷ xs) e = (subst (λ y. T own y × Closed unit shown (IsOneOf own) y) (sym e.0) (h, c), all_firm own t h c xs e.1)

  typed_firm_of : (ds : List IdentDef) (u : Around) → IsPlace u → (name : List ℕ) (q : Option Qualident) (t : Judged Typing) (o : Option Typing) → Has (IsTyping unit shown out path names u name q false t.notes.later) o → (variables_with ds o (with_types u (made_in o))).part.notes.broken ≡ []
      → AreDeclared (HasOne None) u (behind_part (record { notes = t.notes; contents = record Rattle.ob_rules.specs.Declarations.no_contents { types = made_in o } }) (variables_with ds o (with_types u (made_in o))))
  typed_firm_of ds u k name q t None h e = absurd h
  typed_firm_of ds u k name q t (Some y) h e =
      let v = with_types u y.made in
      let r = variables_are v.own ds y v k.sound (all_grown unit shown AnyValue u.own v.own (grows_front y.made u.own) u.known k.knows.known) e in
      let rest = variables_with ds (Some y) v in
      let later : t.notes.later ≡ t.notes.later ++ rest.part.notes.later = sym (append-nil t.notes.later) ∙ ap (λ ls. t.notes.later ++ ls) (sym r.later) in
      let types : y.made ≡ y.made ++ rest.part.contents.types = sym (append-nil y.made) ∙ ap (λ ts. y.made ++ ts) (sym r.types) in
      record {
        more = r.more;
        made = y.made;
        around = r.around;
        firm = subst (λ ls. Are ls v.own y.made) later h.made;
        told = subst (AreTold y.made) later h.told;
        known = r.known;
        entities = r.entities;
        named = tt;
        types = subst (λ ts. Lies y.made ts) types (lies_same y.made);
        back = subst (λ ts. Lies ts y.made) types (lies_same y.made);
        variables = all_firm v.own y.of h.of (h.closed refl) rest.part.contents.variables r.variables;
        bound = r.bound;
        procedures = r.procedures;
      }

  pub variables_firm : (ds : List IdentDef) (w : Written) → IsFirm unit shown out path names w → GoodPlain None (variables_declared ds w)
  variables_firm ds w g u k e =
      let name = u.path ++ first_name ds ++ codes ":" in
      let t = w.typing u name mark.Hidden false in
      let rest = variables_with ds t.node (with_types u (made_in t.node)) in
      typed_firm_of ds u k name w.name t t.node (g u k name mark.Hidden false (front_empty t.notes.broken rest.part.notes.broken e)) (back_empty t.notes.broken rest.part.notes.broken e)

  -- ---- in order

  names_in : (o : Option (List ℕ)) (xs : List (List ℕ)) (a b : List TypedType) → HasOne o a → HasAll xs b → HasAll (cons_option o xs) (b ++ a)
  names_in None xs a b h k x e = grows_behind b a (path ++ x) (k x e)
  names_in (Some y) xs a b h k x e = go (bytes_eq y x) refl e
    where
      go : (c : Bool) → bytes_eq y x ≡ c → (c || is_among x xs) ≡ true → HasName (b ++ a) (path ++ x)
      go true i e = grows_front b a (path ++ x) (subst (λ z. HasName a (path ++ z)) (bytes_true y x i) h)
      go false i e = grows_behind b a (path ++ x) (k x e)

  turned : (a b ts us : List TypedType) → Lies a ts → Lies b us → Lies (b ++ a) (ts ++ us)
  turned a b ts us f g t i = ⊎_elim (λ k. one_right ts us t (g t k)) (λ k. one_left ts us t (f t k)) (one_joined b a t i)

  variables_more : (own more : List TypedType) → Lies own more → (xs : List TypedVariable) → AllByRecursion (VariableFirm own) xs → AllByRecursion (VariableFirm more) xs
  variables_more own more f xs h = all_of (VariableFirm own) (VariableFirm more) xs (λ x i. (stands_grown unit shown own more (grows_as own more f) x.of i.0, closed_more unit shown (IsOneOf own) (IsOneOf more) f x.of i.1)) h

  pub order_one : (o : Option (List ℕ)) (xs : List (List ℕ)) (u : Around) (a d : Declared) → AreDeclared (HasOne o) u a → AreDeclared (HasAll xs) a.around d → AreDeclared (HasAll (cons_option o xs)) u (behind_part a.part d)
  order_one o xs u a d p q = by (subst (λ (v : Around). AreDeclared (HasAll xs) v d) p.around q)
    where
      by : AreDeclared (HasAll xs) (record u { known = p.more; own = p.made ++ u.own }) d → AreDeclared (HasAll (cons_option o xs)) u (behind_part a.part d)
      by r =
          let la = a.part.notes.later in
          let ld = d.part.notes.later in
          let own = (r.made ++ p.made) ++ u.own in
          let same : r.made ++ (p.made ++ u.own) ≡ own = sym (append_assoc r.made p.made u.own) in
          let f : Lies (p.made ++ u.own) own = subst (Lies (p.made ++ u.own)) same (lies_front r.made (p.made ++ u.own)) in
          let g : Lies (r.made ++ (p.made ++ u.own)) own = subst (Lies (r.made ++ (p.made ++ u.own))) same (lies_same (r.made ++ (p.made ++ u.own))) in
          let back : Lies p.made (r.made ++ p.made) = lies_front r.made p.made in
          let front : Lies r.made (r.made ++ p.made) = lies_behind r.made p.made in
          record {
            more = r.more;
            made = r.made ++ p.made;
            around = r.around ∙ ap (λ ts. let z : Around = record u { known = r.more; own = ts } in z) same;
            firm = all_both (FirmAt unit shown path names (la ++ ld) own) r.made p.made (are_more unit shown path names ld (la ++ ld) (λ l i. one_right la ld l i) (r.made ++ (p.made ++ u.own)) own g r.made r.firm) (are_more unit shown path names la (la ++ ld) (λ l i. one_left la ld l i) (p.made ++ u.own) own f p.made p.firm);
            told = all_both (Tells (r.made ++ p.made)) la ld (are_told_more p.made (r.made ++ p.made) back la p.told) (are_told_more r.made (r.made ++ p.made) front ld r.told);
            known = r.known;
            entities = subst (λ ts. AllByRecursion (EK ts) r.more) same r.entities;
            named = names_in o xs p.made r.made p.named r.named;
            types = turned p.made r.made a.part.contents.types d.part.contents.types p.types r.types;
            back = λ t i. ⊎_elim (λ k. one_right r.made p.made t (p.back t k)) (λ k. one_left r.made p.made t (r.back t k)) (one_joined a.part.contents.types d.part.contents.types t i);
            variables = all_both (VariableFirm own) a.part.contents.variables d.part.contents.variables (variables_more (p.made ++ u.own) own f a.part.contents.variables p.variables) (variables_more (r.made ++ (p.made ++ u.own)) own g d.part.contents.variables r.variables);
            bound = ap (λ ts. ts ++ d.part.contents.bound) p.bound ∙ r.bound;
            procedures = ap (λ ts. ts ++ d.part.contents.procedures) p.procedures ∙ r.procedures;
          }
