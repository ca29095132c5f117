-- Modules: the bodies of a checked module are judged where what is known is as the module has it.
use Rattle.std.proofs.Common.{◌≡◌, ◌⊎◌, ⊎_elim, refl, sym, ap, ◌∙◌, subst, ℕ, ◌≤◌, Bool, true, false, List, [], ◌∷◌, ◌++◌, map, Option, Some, None, arith, inl, inr}
use Rattle.std.specs.Prelude.{◌≢◌, ◌==◌, cond, not, bytes_eq, ◌&&◌, ◌||◌}
use Rattle.std.specs.List.{AllByRecursion, cons_option, filter_map, find}
use Rattle.ob_tree.specs.declared.pos.Pos.{Pos}
use Rattle.ob_tree.specs.declared.names.QName.{QName}
use Rattle.ob_tree.specs.declared.ident.Ident.{Ident}
use Rattle.ob_tree.specs.declared.ident.Import.{Import}
use Rattle.ob_tree.specs.declared.expr.Expr.{Expr}
use Rattle.ob_tree.specs.declared.stmt.Stmt.{Stmt}
use Rattle.ob_tree.specs.declared.decl.Decl.{Decl, roll-Decl, map-Decl}
use Rattle.ob_tree.specs.declared.decl.Decl.TheOpen.{Decl-F}
use Rattle.ob_tree.specs.declared.decl.Decl.TheFolds.{ind-Decl, fold-roll-Decl}
use Rattle.ob_tree.specs.declared.decl.Module.{Module as Tree}
use Rattle.ob_types.specs.declared.value.Value.{Value}
use Rattle.ob_types.specs.declared.value.Value.TheVariants as literal
use Rattle.ob_types.specs.declared.desc.Desc.{Desc}
use Rattle.ob_types.specs.declared.typed.TypedType.{TypedType}
use Rattle.ob_types.specs.declared.typed.TypedProcedure.{TypedProcedure}
use Rattle.ob_types.specs.declared.typed.TypedModule.{TypedModule}
use Rattle.ob_rules.specs.declared.broken.Broken.{Broken}
use Rattle.ob_rules.specs.declared.entity.Known.{Known}
use Rattle.ob_rules.specs.declared.broken.Rule.TheVariants as rule
use Rattle.ob_rules.specs.declared.broken.Rule.{Rule}
use Rattle.ob_rules.specs.Judged.{notes_if}
use Rattle.ob_rules.specs.Names.{Around, predeclared, is_out}
use Rattle.ob_rules.specs.Expressions.{phrase_of}
use Rattle.ob_rules.specs.Types.{written, is_module_level}
use Rattle.ob_rules.specs.Statements.{judging, in_turn}
use Rattle.ob_rules.specs.Declarations.{Contents, no_contents, together, Part, Declaration, Plain, Procedure, plain_of, procedure_of, type_name_of, in_order, stmts_in, block, decl_rule, declaration, is_system, target_of, import_entity, import_declared, imports_declared, around_module, module_of, described, all_described, typed_module, if_unbroken, checked}
use Rattle.law_typing.specs.Makes.{IfThere}
use Rattle.law_typing.specs.Spelled.{all_true, is_spelled}
use Rattle.law_typing.specs.Bodies.{stmt_spelled}
use Rattle.law_simulation_relation.proofs.Names.{bytes_true, bytes_same}
use Rattle.law_typing_forms.specs.Said.{IsOneOf}
use Rattle.law_typing_forms.specs.Whole.{Different}
use Rattle.law_typing_forms.proofs.Members.{found}
use Rattle.law_body_context.specs.Spelled.{parameters_spelled, decl_layer, decl_spelled, tree_spelled}
use Rattle.law_body_context.specs.Knows.{Grows, IsDescribed, EntityStands}
use Rattle.law_body_context.specs.Judged.{IsMade, HasMore, IsTold, NameIs, BodiesAreJudged}
use Rattle.law_body_context.specs.Around.{IsAround}
use Rattle.law_body_context.proofs.Held.{one_mapped}
use Rattle.law_body_context.proofs.More.{more_same}
use Rattle.law_body_context.proofs.Binding.{AreOne, IsFrom}
use Rattle.law_body_context.proofs.Standing.{Lies, lies_same}
use Rattle.law_body_context.proofs.Lists.{one_joined, one_all, all_one, find_has}
use Rattle.law_body_context.proofs.Typings.{ConstantPhrase}
use Rattle.law_body_context.specs.Order.{AreInOrder}
use Rattle.law_body_context.proofs.Over.{written_over, written_parameters_over}
use Rattle.law_body_context.proofs.Written.{written_good, written_parameters_good}
use Rattle.law_body_context.proofs.Levels.{Level, AtModule, Within, frame, IsPlaced, IsBoundAt, IsOpened, own_none, own_same, bound_same, bound_none, declared_own, Included, none_full, both_full, first_included, second_included, BlockAt, block_declared as name_declared}
use Rattle.law_names_procedures.specs.Procedures.{is_plain, ShowBases, heading_layer, is_named_plainly}
use Rattle.law_names_procedures.specs.Procedures as said
use Rattle.law_names_procedures.proofs.Knowing.{AreKnown}
use Rattle.law_names_procedures.proofs.Apart.{IsPlain as IsPlainName}
use Rattle.law_names_procedures.proofs.Written.{written_well, written_parameters_well}
use Rattle.law_names_procedures.proofs.Plain.{OrderIs, GoodPlain, constant_good, type_good, variables_good, imports_good, order_one}
use Rattle.law_body_context.proofs.Quiet.{IsQuiet, quiet_behind}
use Rattle.law_body_context.proofs.Plain.{IsPlain, constant_plain, type_plain, variables_declared_plain, order_plain}
use Rattle.law_body_context.proofs.Blocks.{all_empty, PartIs, IsBlock, IsProcedure, stands_at}
use Rattle.law_body_context.proofs.Sequences.{block_is}
use Rattle.law_body_context.proofs.Around.{HandsOn, IsJudgedAlso, both_of, nothing_handed}
use Rattle.law_lists.proofs.Lists.{all_both, and_parts, back_empty, first_false, front_empty, or_parts}

one_kept : {B : Type 0} (Q : B → Type 0) (o : Option B) (ys : List B) → IfThere Q o → AllByRecursion Q ys → AllByRecursion Q (cons_option o ys)
one_kept Q None ys h k = k
one_kept Q (Some y) ys h k = (h, k)

kept_all : {A B : Type 0} (P : A → Type 0) (Q : B → Type 0) (f : A → Option B) → ((x : A) → P x → IfThere Q (f x)) → (xs : List A) → AllByRecursion P xs → AllByRecursion Q (filter_map f xs)
kept_all P Q f k [] h = tt
kept_all P Q f k (x ∷ xs) h = one_kept Q (f x) (filter_map f xs) (k x h.0) (kept_all P Q f k xs h.1)

-- ---- what is made of parts where nothing is broken

pub unbroken_is : {A : Type 0} (bs : List Broken) (x m : A) → if_unbroken bs x ≡ Some m → (bs ≡ []) × (x ≡ m)
unbroken_is [] x m e = (refl, cc)
unbroken_is (b ∷ bs) x m e = absurd cc

not_noted : (b : Bool) (which : Rule) (at : Pos) → (notes_if b which at).broken ≡ [] → b ≡ false
not_noted true which at e = absurd cc
not_noted false which at e = refl

module _ (IsConstant : Value → Type 0) (truths : (b : Bool) → IsConstant (literal.Bool b)) (shown : QName → Option Desc) (m : TypedModule) (content : Contents) (out : is_out m.name ≡ false) (constants : (x : Expr) → is_spelled x ≡ true → ConstantPhrase IsConstant m.name shown out (phrase_of x)) (Also : Around → Type 0) (hands : (ds : List Decl) (xs : List Stmt) → HandsOn Also content (map declaration ds) (map judging xs)) where
  abbrev GoodDeclaration : Declaration → Type 0
  GoodDeclaration (Plain x f) = IsPlain IsConstant shown m content out f × GoodPlain x f
  GoodDeclaration (Procedure p) = IsProcedure IsConstant shown m content out Also p

  abbrev AreGood : List Declaration → Type 0
  AreGood ds = AllByRecursion GoodDeclaration ds

  plain_good : (d : Declaration) → GoodDeclaration d → IfThere (IsPlain IsConstant shown m content out) (plain_of d)
  plain_good (Plain x f) h = h.0
  plain_good (Procedure p) h = tt

  procedure_good : (d : Declaration) → GoodDeclaration d → IfThere (IsProcedure IsConstant shown m content out Also) (procedure_of d)
  procedure_good (Plain x f) h = tt
  procedure_good (Procedure p) h = h

  later_placed : (l : Level) (u : Around) (xs : List (List ℕ)) → IsPlaced l u → IsPlaced l (record u { later_types = xs })
  later_placed AtModule u xs h = h
  later_placed (Within p) u xs h = h

  later_opened : (l : Level) (u : Around) (xs : List (List ℕ)) → IsOpened IsConstant shown m content l u → IsOpened IsConstant shown m content l (record u { later_types = xs })
  later_opened AtModule u xs h = h
  later_opened (Within p) u xs h = h

  -- declarations leave nothing broken
  order_quiet : (ds : List Declaration) → AreGood ds → (u : Around) → AreKnown u.known → (in_order (filter_map plain_of ds) u).part.notes.broken ≡ [] → OrderIs (filter_map type_name_of ds) u (in_order (filter_map plain_of ds) u)
  order_quiet [] g u k e = record { more = u.known; made = []; around = refl; known = k; points = tt; named = λ x h. let bad : false ≡ true = h in absurd cc; none = refl }
  order_quiet (Procedure p ∷ ds) g u k e = order_quiet ds g.1 u k e
  order_quiet (Plain o f ∷ ds) g u k e =
      let a = f u in
      let rest = in_order (filter_map plain_of ds) a.around in
      let p = g.0.1 u k (front_empty a.part.notes.broken rest.part.notes.broken e) in
      order_one o (filter_map type_name_of ds) u a rest p (order_quiet ds g.1 a.around (subst (λ (v : Around). AreKnown v.known) (sym p.around) p.known) (back_empty a.part.notes.broken rest.part.notes.broken e))

  -- what is bound at the level of the module is made by it
  bound_at : (l : Level) (u : Around) → IsPlaced l u → (c : Contents) → IsBoundAt IsConstant shown m content l c → is_module_level u ≡ true → (t : TypedType) → IsOneOf c.bound t → IsMade content t
  bound_at AtModule u p c h e = h
  bound_at (Within q) u p c h e = let bad : true ≡ false = sym e ∙ p.0 in absurd cc

  block_good : (ds : List Declaration) → AreGood ds → (xs : List Stmt) → HandsOn Also content ds (map judging xs) → all_true (map stmt_spelled xs) ≡ true → IsBlock IsConstant shown m content out Also (block ds (map judging xs))
  block_good ds g xs next e l u b a o q n i =
      let names = filter_map type_name_of ds in
      let v : Around = record u { later_types = names } in
      let ps = filter_map procedure_of ds in
      let d = in_order (filter_map plain_of ds) v in
      let c : BlockAt IsConstant shown m content l v = record {
        knows = record { unit_is = b.knows.unit_is; shown_is = b.knows.shown_is; own = b.knows.own; known = b.knows.known };
        below = b.below;
        names = b.names;
        placed = later_placed l u names b.placed;
        guards = b.guards;
        result = b.result;
        in_loop = b.in_loop;
        grown = b.grown;
        within = record { unit_is = b.within.unit_is; shown_is = b.within.shown_is; own = b.within.own };
        receiver = b.receiver;
      } in
      let r = order_plain IsConstant shown m content out (filter_map plain_of ds) (kept_all GoodDeclaration (IsPlain IsConstant shown m content out) plain_of plain_good ds g) l v c (first_included IsConstant shown m content l d.part.contents _ i) in
      let plain : d.part.notes.broken ≡ [] = front_empty d.part.notes.broken _ (front_empty (d.part.notes.broken ++ _) _ n) in
      block_is IsConstant shown m content out Also l ps (kept_all GoodDeclaration (IsProcedure IsConstant shown m content out Also) procedure_of procedure_good ds g) xs e u b.placed v (later_opened l u names o) d r (quiet_behind names u d q (order_quiet ds g v q.known plain)) (next u a n i.made (bound_at l u b.placed (block ds (map judging xs) u).contents i.bound)) n i

  -- BY INDUCTION OVER DECLARATIONS

  abbrev PD : Decl → Type 0
  PD x = decl_spelled x ≡ true → is_named_plainly x ≡ true → GoodDeclaration (declaration x)

  abbrev SD : Type 0
  SD = (x : Decl) × PD x

  abbrev decls_in : List SD → List Decl
  decls_in xs = map (λ (x : SD). x.0) xs

  all_in : (xs : List SD) → all_true (map decl_spelled (decls_in xs)) ≡ true → said.all_true (map is_named_plainly (decls_in xs)) ≡ true → AreGood (map declaration (decls_in xs))
  all_in [] e f = tt
  all_in (x ∷ xs) e f =
      let p = and_parts (decl_spelled x.0) (all_true (map decl_spelled (decls_in xs))) e in
      let q = and_parts (is_named_plainly x.0) (said.all_true (map is_named_plainly (decls_in xs))) f in
      (x.1 p.0 q.0, all_in xs p.1 q.1)

  layer : (x : Decl-F Decl) → (decl_layer (map-Decl Decl Bool decl_spelled x) ≡ true → heading_layer (map-Decl Decl Bool is_named_plainly x) ≡ true → GoodDeclaration (decl_rule (map-Decl Decl Declaration declaration x))) → PD (roll-Decl x)
  layer x h e f = subst GoodDeclaration (sym (fold-roll-Decl Declaration decl_rule x)) (h (sym (fold-roll-Decl Bool decl_layer x) ∙ e) (sym (fold-roll-Decl Bool heading_layer x) ∙ f))

  not_false : (b : Bool) → not b ≡ true → b ≡ false
  not_false true e = absurd cc
  not_false false e = refl

  differs : (b c : ℕ) → (c == c) ≡ true → (b == c) ≡ false → b ≡ c → ⊥
  differs b c r e i = let bad : true ≡ false = sym r ∙ ap (λ n. n == c) (sym i) ∙ e in absurd cc

  plain_from : (x : List ℕ) → is_plain x ≡ true → IsPlainName x
  plain_from [] e = (tt, tt)
  plain_from (b ∷ x) e =
      let p = and_parts (not (b == 46 || b == 47)) (is_plain x) e in
      let q = or_parts (b == 46) (b == 47) (not_false (b == 46 || b == 47) p.0) in
      let r = plain_from x p.1 in
      ((differs b 46 refl q.0, r.0), (differs b 47 refl q.1, r.1))

  no_block : IsBlock IsConstant shown m content out Also (λ u. record { notes = Rattle.ob_rules.specs.Judged.no_notes; contents = no_contents })
  no_block l u b a o q n i = record { procedures = tt; body = record { u = u; xs = []; is = refl; spelled = refl; stands = stands_at IsConstant shown m content out l u b }; also = a; placed = b.placed; full = none_full IsConstant shown m content; bound = bound_none IsConstant shown m content l no_contents refl; own = own_none IsConstant shown m content l [] u refl }

  decl_cases : (y : Decl-F SD) → PD (roll-Decl (map-Decl SD Decl (λ x. x.0) y))
  decl_cases (Decl-F.Constant d x) = layer (Decl-F.Constant d x) (λ e f. (constant_plain IsConstant shown m content out d (phrase_of x) (constants x e), constant_good d (phrase_of x)))
  decl_cases (Decl-F.NamedType d n) = layer (Decl-F.NamedType d n) (λ e f. (type_plain IsConstant shown m content out d (written n) (written_good IsConstant m.name shown out constants n e) (written_over IsConstant m.name shown out n), type_good d (written n) (written_well n)))
  decl_cases (Decl-F.Variables ds n) = layer (Decl-F.Variables ds n) (λ e f. (variables_declared_plain IsConstant shown m content out ds (written n) (written_good IsConstant m.name shown out constants n e) (written_over IsConstant m.name shown out n), variables_good ds (written n) (written_well n)))
  decl_cases (Decl-F.Procedure h ds body closing) = layer (Decl-F.Procedure h (decls_in ds) body closing) (λ e f.
      let p = and_parts (parameters_spelled h.parameters) (all_true (map decl_spelled (decls_in ds)) && all_true (map stmt_spelled body)) e in
      let q = and_parts (all_true (map decl_spelled (decls_in ds))) (all_true (map stmt_spelled body)) p.1 in
      let r = and_parts (is_plain h.name.ident.name) (said.all_true (map is_named_plainly (decls_in ds))) f in
      record {
        heading = ((written_parameters_good IsConstant m.name shown out constants h.parameters p.0, written_parameters_over IsConstant m.name shown out h.parameters), tt);
        well = record { sections = written_parameters_well h.parameters; plain = plain_from h.name.ident.name r.0 };
        inside = block_good (map declaration (decls_in ds)) (all_in ds q.0 r.1) body (hands (decls_in ds) body) q.1;
      })
  decl_cases (Decl-F.Forward h) = layer (Decl-F.Forward h) (λ e f. record { heading = ((written_parameters_good IsConstant m.name shown out constants h.parameters e, written_parameters_over IsConstant m.name shown out h.parameters), tt); well = record { sections = written_parameters_well h.parameters; plain = plain_from h.name.ident.name f }; inside = no_block })

  decl_good : (x : Decl) → PD x
  decl_good = ind-Decl PD (λ x y is. subst (λ z. PD (roll-Decl z)) is (decl_cases y))

  decls_good : (xs : List Decl) → all_true (map decl_spelled xs) ≡ true → said.all_true (map is_named_plainly xs) ≡ true → AreGood (map declaration xs)
  decls_good [] e f = tt
  decls_good (x ∷ xs) e f =
      let p = and_parts (decl_spelled x) (all_true (map decl_spelled xs)) e in
      let q = and_parts (is_named_plainly x) (said.all_true (map is_named_plainly xs)) f in
      (decl_good x p.0 q.0, decls_good xs p.1 q.1)

  -- IMPORTS

  import_at : (own : List TypedType) (b : Bool) (t : Ident) → bytes_eq t.name m.name ≡ false → EntityStands IsConstant m.name shown own (import_entity b t)
  import_at own true t h = tt
  import_at own false t h = h

  import_name : (own : List TypedType) (p : Option TypedProcedure) (level scope : ℕ) (b : Bool) (t : Ident) → NameIs IsConstant shown m content own p level scope (import_entity b t)
  import_name own p level scope true t = tt
  import_name own p level scope false t = tt

  import_plain : (i : Import) (t : Ident) → bytes_eq t.name m.name ≡ false → IsPlain IsConstant shown m content out (import_declared i t)
  import_plain i t h l u b c = record {
    around = name_declared IsConstant shown m content l u b i.ident (import_entity (is_system t.name) t) (import_at u.own (is_system t.name) t h) (import_name u.own (frame l) u.level u.scope (is_system t.name) t);
    procedures = refl;
    body = refl;
    full = none_full IsConstant shown m content;
    lies = subst (λ own. Lies own u.own) (sym (declared_own IsConstant shown m content u i.ident (import_entity (is_system t.name) t))) (lies_same u.own);
    bound = refl;
    order = λ k. subst (AreInOrder m.name shown) (sym (declared_own IsConstant shown m content u i.ident (import_entity (is_system t.name) t))) k;
  }

  imports_plain : (is : List Import) → AllByRecursion (λ (i : Import). bytes_eq (target_of i).name m.name ≡ false) is → AllByRecursion (IsPlain IsConstant shown m content out) (map (λ i. import_declared i (target_of i)) is)
  imports_plain [] h = tt
  imports_plain (i ∷ is) h = (import_plain i (target_of i) h.0, imports_plain is h.1)

  -- THE MODULE

  none_below : 0 ≤ 1
  none_below = omega arith

  predeclared_below : AllByRecursion (λ (k : Known). k.scope ≤ 1) predeclared
  predeclared_below = let z = none_below in (z, (z, (z, (z, (z, (z, (z, (z, (z, (z, (z, (z, (z, (z, (z, (z, (z, (z, (z, (z, (z, (z, (z, (z, (z, (z, (z, (z, (z, (z, (z, tt)))))))))))))))))))))))))))))))

  module_around : (name : List ℕ) (ds : List Declaration) → name ≡ m.name → BlockAt IsConstant shown m content AtModule (around_module shown name ds)
  module_around name ds e = record {
    knows = record { unit_is = e; shown_is = refl; own = tt; known = (tt, (tt, (tt, (tt, (tt, (tt, (truths true, (truths false, (tt, (tt, (tt, (tt, (tt, (tt, (tt, (tt, (tt, (tt, (tt, (tt, (tt, (tt, (tt, (tt, (tt, (tt, (tt, (tt, (tt, (tt, (tt, tt))))))))))))))))))))))))))))))) };
    below = predeclared_below;
    names = (tt, (tt, (tt, (tt, (tt, (tt, (tt, (tt, (tt, (tt, (tt, (tt, (tt, (tt, (tt, (tt, (tt, (tt, (tt, (tt, (tt, (tt, (tt, (tt, (tt, (tt, (tt, (tt, (tt, (tt, (tt, tt)))))))))))))))))))))))))))))));
    placed = (refl, (refl, (refl, refl)));
    guards = refl;
    result = refl;
    in_loop = refl;
    grown = λ x h. absurd h.1.0;
    within = record { unit_is = e; shown_is = refl; own = λ t i. absurd i };
    receiver = tt;
  }

  predeclared_known : AreKnown predeclared
  predeclared_known = (tt, (tt, (tt, (tt, (tt, (tt, (tt, (tt, (tt, (tt, (tt, (tt, (tt, (tt, (tt, (tt, (tt, (tt, (tt, (tt, (tt, (tt, (tt, (tt, (tt, (tt, (tt, (tt, (tt, (tt, (tt, tt)))))))))))))))))))))))))))))))

  module_is : (name : Ident) → name.name ≡ m.name → ShowBases shown name.name → (imports : List Import) → AllByRecursion (λ (i : Import). bytes_eq (target_of i).name m.name ≡ false) imports → (ds : List Declaration) → AreGood ds → (xs : List Stmt) → HandsOn Also content ds (map judging xs) → Also (imports_declared imports (around_module shown name.name ds)).around → all_true (map stmt_spelled xs) ≡ true → (closing : Ident) → (module_of shown name imports ds (map judging xs) closing).notes.broken ≡ [] → Included IsConstant shown m content AtModule (module_of shown name imports ds (map judging xs) closing).contents → PartIs IsConstant shown m content out Also AtModule (module_of shown name imports ds (map judging xs) closing).contents
  module_is name e bases imports o ds g xs next begins s closing n i =
      let u = around_module shown name.name ds in
      let d = imports_declared imports u in
      let c = (block ds (map judging xs) d.around).contents in
      let j = second_included IsConstant shown m content AtModule no_contents (together d.part.contents c) i in
      let r = order_plain IsConstant shown m content out (map (λ i. import_declared i (target_of i)) imports) (imports_plain imports o) AtModule u (module_around name.name ds e) (first_included IsConstant shown m content AtModule d.part.contents c j) in
      let inner = (block ds (map judging xs) d.around).notes.broken in
      let quiet : inner ≡ [] = back_empty d.part.notes.broken inner (back_empty _ (d.part.notes.broken ++ inner) n) in
      let opened : Lies d.around.own content.types = λ t k. ⊎_elim (λ y. (first_included IsConstant shown m content AtModule d.part.contents c j).made t y) (λ y. absurd y) (one_joined d.part.contents.types [] t (r.lies t k)) in
      let known = imports_good imports u predeclared_known (front_empty d.part.notes.broken inner (back_empty _ (d.part.notes.broken ++ inner) n)) in
      let calm : IsQuiet d.around = subst IsQuiet (sym known.around) (record { known = known.known; begins = λ l. (refl, bases) }) in
      let p = block_good ds g xs next s AtModule d.around r.around begins (opened, r.order tt) calm quiet (second_included IsConstant shown m content AtModule d.part.contents c j) in
      record {
        procedures = all_both (IsJudgedAlso Also IsConstant shown m content) d.part.contents.procedures c.procedures (all_empty (IsJudgedAlso Also IsConstant shown m content) d.part.contents.procedures r.procedures) p.procedures;
        body = record { u = p.body.u; xs = p.body.xs; is = ◌∙◌ {c = stmts_in (in_turn (map judging p.body.xs) p.body.u).node} (ap (λ l. l ++ c.body) r.body) p.body.is; spelled = p.body.spelled; stands = p.body.stands };
        also = p.also;
        placed = p.placed;
        full = both_full IsConstant shown m content no_contents (together d.part.contents c) (none_full IsConstant shown m content) (both_full IsConstant shown m content d.part.contents c r.full p.full);
        bound = bound_same IsConstant shown m content c (together no_contents (together d.part.contents c)) (ap (λ ts. ts ++ c.bound) r.bound) p.bound;
        own = own_same IsConstant shown m content AtModule c.bound (together no_contents (together d.part.contents c)).bound p.body.u (ap (λ ts. ts ++ c.bound) r.bound) p.own;
      }

-- ---- the checked module

same_named : (o : Option TypedType) (t : TypedType) → (described o t).name ≡ t.name
same_named None t = refl
same_named (Some b) t = refl

module _ (IsConstant : Value → Type 0) where
  described_is : (o : Option TypedType) (t : TypedType) → IfThere (IsDescribed IsConstant) o → IsDescribed IsConstant t → IsDescribed IsConstant (described o t)
  described_is None t h k = k
  described_is (Some b) t h k = record { type = h.type; length = h.length }

  all_described_are : (bound : List TypedType) → AllByRecursion (IsDescribed IsConstant) bound → (ts : List TypedType) → AllByRecursion (IsDescribed IsConstant) ts → AllByRecursion (IsDescribed IsConstant) (all_described bound ts)
  all_described_are bound h [] k = tt
  all_described_are bound h (t ∷ ts) k = (described_is (find (λ b. bytes_eq b.name t.name) bound) t (find_has (IsDescribed IsConstant) (λ b. bytes_eq b.name t.name) bound h) k.0, all_described_are bound h ts k.1)

module _ (IsConstant : Value → Type 0) (types bound : List TypedType) (from : (b : TypedType) → IsOneOf bound b → IsFrom IsConstant types b) (one : AreOne IsConstant types → AreOne IsConstant bound) (differ : Different (λ (t : TypedType). t.name) (all_described bound types)) where
  abbrev for_name : TypedType → Option TypedType
  for_name t = find (λ b. bytes_eq b.name t.name) bound

  name_is : (t : TypedType) → (described (for_name t) t).name ≡ t.name
  name_is t = same_named (for_name t) t

  there : (ts : List TypedType) (t : TypedType) → IsOneOf ts t → IsOneOf (all_described bound ts) (described (for_name t) t)
  there ts t i = one_mapped (λ t. described (find (λ b. bytes_eq b.name t.name) bound) t) ts t i

  -- types of one name are one
  same_of : (ts : List TypedType) → Different (λ (t : TypedType). t.name) (all_described bound ts) → (a b : TypedType) → IsOneOf ts a → IsOneOf ts b → a.name ≡ b.name → a ≡ b
  same_of [] d a b i j e = absurd i
  same_of (t ∷ ts) d a b (inl i) (inl j) e = sym i ∙ j
  same_of (t ∷ ts) d a b (inl i) (inr j) e = absurd (one_all (λ (y : TypedType). y.name ≢ (described (for_name t) t).name) (all_described bound ts) (described (for_name b) b) d.0 (there ts b j) (name_is b ∙ sym e ∙ sym (ap (λ (y : TypedType). y.name) i) ∙ sym (name_is t)))
  same_of (t ∷ ts) d a b (inr i) (inl j) e = absurd (one_all (λ (y : TypedType). y.name ≢ (described (for_name t) t).name) (all_described bound ts) (described (for_name a) a) d.0 (there ts a i) (name_is a ∙ e ∙ sym (ap (λ (y : TypedType). y.name) j) ∙ sym (name_is t)))
  same_of (t ∷ ts) d a b (inr i) (inr j) e = same_of ts d.1 a b i j e

  one_type : AreOne IsConstant types
  one_type a b i j e = ap (λ (t : TypedType). t.desc) (same_of types differ a b i j e)

  found_bound : (t b : TypedType) → for_name t ≡ Some b → IsOneOf bound b × (b.name ≡ t.name)
  found_bound t b e = let r = found (IsOneOf bound) (λ (b : TypedType). bytes_eq b.name t.name) bound b (all_one (IsOneOf bound) bound (λ x i. i)) e in (r.0, bytes_true b.name t.name r.1)

  not_found : (bs : List TypedType) (x : List ℕ) (b : TypedType) → IsOneOf bs b → b.name ≡ x → find (λ b. bytes_eq b.name x) bs ≡ None → ⊥
  not_found [] x b i e f = absurd i
  not_found (c ∷ bs) x b i e f = by (bytes_eq c.name x) refl f (λ j g. not_found bs x b j e g)
    where
      by : (k : Bool) → bytes_eq c.name x ≡ k → cond k (Some c) (find (λ b. bytes_eq b.name x) bs) ≡ None → (IsOneOf bs b → find (λ b. bytes_eq b.name x) bs ≡ None → ⊥) → ⊥
      by true g f r = absurd cc
      by false g f r = ⊎_elim (λ j. let bad : true ≡ false = sym (bytes_same x) ∙ ap (λ (y : List ℕ). bytes_eq y x) (sym (ap (λ (t : TypedType). t.name) j ∙ e)) ∙ g in absurd cc) (λ j. r j f) i

  -- a type, which has perhaps more procedures in the module
  type_told : (t : TypedType) → IsOneOf types t → IsTold (all_described bound types) t
  type_told t i = (described (for_name t) t, (there types t i, (name_is t, by (for_name t) refl)))
    where
      by : (o : Option TypedType) → for_name t ≡ o → HasMore t.desc (described o t).desc
      by None e = more_same t.desc t.desc refl
      by (Some b) e =
          let f = found_bound t b e in
          let r = from b f.0 in
          subst (λ (y : TypedType). HasMore y.desc b.desc) (same_of types differ r.0 t r.1.0 i (r.1.1.0 ∙ f.1)) r.1.1.1

  -- what is bound, as it is in the module
  bound_told : (b : TypedType) → IsOneOf bound b → IsTold (all_described bound types) b
  bound_told b i =
      let r = from b i in
      (described (for_name r.0) r.0, (there types r.0 r.1.0, (name_is r.0 ∙ r.1.1.0, by r.0 r.1.1.0 (for_name r.0) refl)))
    where
      by : (t : TypedType) → t.name ≡ b.name → (o : Option TypedType) → for_name t ≡ o → HasMore b.desc (described o t).desc
      by t n None e = absurd (not_found bound t.name b i (sym n) e)
      by t n (Some c) e = let f = found_bound t c e in more_same b.desc c.desc (sym (one one_type c b f.0 i (f.1 ∙ n)))

  all_told : (t : TypedType) → IsOneOf types t ⊎ IsOneOf bound t → IsTold (all_described bound types) t
  all_told t h = ⊎_elim (λ i. type_told t i) (λ i. bound_told t i) h

module _ (IsConstant : Value → Type 0) (truths : (b : Bool) → IsConstant (literal.Bool b)) (shown : QName → Option Desc) (tree : Tree) where
  abbrev pub parts : Part
  parts = module_of shown tree.name tree.imports (map declaration tree.decls) (map judging tree.body) tree.closing

  abbrev pub whole : TypedModule
  whole = typed_module shown tree.name tree.imports (map declaration tree.decls) parts

  pub not_out : parts.notes.broken ≡ [] → is_out whole.name ≡ false
  not_out e =
      let b = is_out tree.name.name || is_system tree.name.name in
      let n = notes_if b rule.ReservedModule tree.name.pos in
      let f = front_empty n.broken _ (front_empty (n.broken ++ (Rattle.ob_rules.specs.Declarations.closing_judged tree.name.name (Some tree.closing)).broken) _ e) in
      first_false (is_out tree.name.name) (is_system tree.name.name) (not_noted b rule.ReservedModule tree.name.pos f)

  names_kept : (bound : List TypedType) (ts : List TypedType) → Grows ts (all_described bound ts)
  names_kept bound [] x h = absurd h.1.0
  names_kept bound (t ∷ ts) x (s, (inl e, f)) = let d = described (find (λ b. bytes_eq b.name t.name) bound) t in (d, (inl refl, same_named (find (λ b. bytes_eq b.name t.name) bound) t ∙ ap (λ (r : TypedType). r.name) e ∙ f))
  names_kept bound (t ∷ ts) x (s, (inr i, f)) = let r = names_kept bound ts x (s, (i, f)) in (r.0, (inr r.1.0, r.1.1))

  module _ (Also : Around → Type 0) (hands : (ds : List Decl) (xs : List Stmt) → HandsOn Also parts.contents (map declaration ds) (map judging xs)) (begins : Also (imports_declared tree.imports (around_module shown tree.name.name (map declaration tree.decls))).around) where
    abbrev With : TypedModule → Type 0
    With m = (j : BodiesAreJudged IsConstant shown m) × IsAround Also IsConstant shown m j

    whole_is : parts.notes.broken ≡ [] → (out : is_out whole.name ≡ false) → ((x : Expr) → is_spelled x ≡ true → ConstantPhrase IsConstant whole.name shown out (phrase_of x)) → tree_spelled tree ≡ true → ShowBases shown tree.name.name → said.all_true (map is_named_plainly tree.decls) ≡ true → AllByRecursion (λ (i : Import). bytes_eq (target_of i).name tree.name.name ≡ false) tree.imports → With whole
    whole_is quiet out constants s bases plain o =
        let e = and_parts (all_true (map decl_spelled tree.decls)) (all_true (map stmt_spelled tree.body)) s in
        let p = module_is IsConstant truths shown whole parts.contents out constants Also hands tree.name refl bases tree.imports o (map declaration tree.decls) (decls_good IsConstant truths shown whole parts.contents out constants Also hands tree.decls e.0 plain) tree.body (hands tree.decls tree.body) begins e.1 tree.closing quiet (record { variables = λ x i. i; procedures = λ p i. i; types = names_kept parts.contents.bound parts.contents.types; made = λ t i. i; bound = λ t i. inr i }) in
        let both = both_of Also IsConstant shown whole parts.contents whole.procedures p.procedures in (
          record { content = parts.contents; told = λ d. all_told IsConstant parts.contents.types parts.contents.bound p.bound.from p.bound.one d; types_are = refl; over = p.full.over; from = p.bound.from; bound = p.bound.by; own = p.own; procedures = both.0; body = p.body; scope = p.placed.1.0; receiver = p.placed.1.1.1; name = out; constants = p.full.constants; types = all_described_are IsConstant parts.contents.bound p.full.bound parts.contents.types p.full.types },
          record { procedures = both.1; body = p.also },
        )

    -- bodies are judged where it holds
    pub bodies_hold : (m : TypedModule) → checked shown tree ≡ Some m → ((out : is_out tree.name.name ≡ false) (x : Expr) → is_spelled x ≡ true → ConstantPhrase IsConstant tree.name.name shown out (phrase_of x)) → tree_spelled tree ≡ true → ShowBases shown tree.name.name → said.all_true (map is_named_plainly tree.decls) ≡ true → AllByRecursion (λ (i : Import). bytes_eq (target_of i).name tree.name.name ≡ false) tree.imports → With m
    bodies_hold m e constants s bases plain o =
        let r = unbroken_is parts.notes.broken whole m e in
        let out = not_out r.0 in
        subst With r.1 (whole_is r.0 out (constants out) s bases plain o)

  pub bodies_judged : (m : TypedModule) → checked shown tree ≡ Some m → ((out : is_out tree.name.name ≡ false) (x : Expr) → is_spelled x ≡ true → ConstantPhrase IsConstant tree.name.name shown out (phrase_of x)) → tree_spelled tree ≡ true → ShowBases shown tree.name.name → said.all_true (map is_named_plainly tree.decls) ≡ true → AllByRecursion (λ (i : Import). bytes_eq (target_of i).name tree.name.name ≡ false) tree.imports → BodiesAreJudged IsConstant shown m
  bodies_judged m e constants s bases plain o = (bodies_hold (λ u. Unit {0}) (λ ds xs. nothing_handed parts.contents (map declaration ds) (map judging xs)) tt m e constants s bases plain o).0
