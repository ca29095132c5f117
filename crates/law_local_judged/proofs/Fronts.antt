-- Designators, with other interfaces around.
use Rattle.std.proofs.Common.{◌≡◌, refl, sym, ap, ◌∙◌, subst, ℕ, List, [], ◌∷◌, Option, Some, None, Bool, true, false}
use Rattle.ob_tree.specs.declared.pos.Pos.{Pos}
use Rattle.ob_tree.specs.declared.names.QName.{QName}
use Rattle.ob_tree.specs.declared.ident.Ident.{Ident}
use Rattle.ob_tree.specs.declared.ident.Qualident.{Qualident}
use Rattle.ob_types.specs.declared.desc.Desc.{Desc}
use Rattle.ob_types.specs.declared.desc.Desc.TheVariants as desc
use Rattle.ob_types.specs.declared.typed.Variable.TheVariants as variable
use Rattle.ob_types.specs.declared.typed.OutProcedure.{OutProcedure}
use Rattle.ob_rules.specs.declared.entity.Entity.{Entity}
use Rattle.ob_rules.specs.declared.entity.Entity.TheVariants as entity
use Rattle.ob_rules.specs.declared.entity.Known.{Known}
use Rattle.ob_rules.specs.declared.meant.Meant.{Meant}
use Rattle.ob_rules.specs.declared.meant.Meant.TheVariants as means
use Rattle.ob_rules.specs.declared.meant.Where.{Where}
use Rattle.ob_rules.specs.declared.values.Place.{Place}
use Rattle.ob_rules.specs.declared.broken.Rule.TheVariants as rule
use Rattle.ob_rules.specs.Judged.{Judged, sound, breaks, noted, made}
use Rattle.ob_rules.specs.Names.{Around, find_name, entity_known, name_known, named, exported, is_out, out_procedure, is_type_desc, is_type_behind, known_is, shown_of}
use Rattle.ob_rules.specs.Phrases.{Behind, Dot}
use Rattle.ob_rules.specs.Designators.{variable_named, through, of_variable, is_read_only, exported_meant, out_meant, in_module, dot_of, module_front, front_of, is_module, behind, front, from_front_with, from_front, designates}
use Rattle.law_local_judged.specs.Said.{SaidIn, MeantIn, MeantTied}
use Rattle.law_local_judged.specs.Followed.{beside, EntityIn, Agrees, Follows}
use Rattle.law_local_judged.proofs.Following.{said_left, said_right, follows_none, follows_sound, follows_made, follows_then, then_node, front_said}
use Rattle.law_local_judged.proofs.Names.{named_follows, exported_follows}
use Rattle.law_local_judged.proofs.Actuals.{NameSame}
use Rattle.law_local_judged.proofs.Selecting.{of_variable_follows, variable_follows}
use Rattle.law_local_judged.proofs.Through.{AreBehind, through_follows, exported_in, shown_same}
use Rattle.law_lists.proofs.Lists.{none_some}

module _ (P : QName → Type 0) (u : Around) (s : QName → Option Desc) (a : Agrees P u s) where
  abbrev v : Around
  v = beside u s

  abbrev MF : Type 0 → Judged Meant → Judged Meant → Type 0
  MF R i j = Follows P (MeantTied P) (MeantIn P) R i j

  meant_none : (i j : Judged Meant) → i.node ≡ None → MF (Unit {0}) i j
  meant_none i j e = follows_none P (MeantTied P) (MeantIn P) (Unit {0}) i j e

  plain : (m : Meant) → MeantTied P m → MF (Unit {0}) (sound m) (sound m)
  plain m t = follows_sound P (MeantTied P) (MeantIn P) (Unit {0}) m t (λ k. tt)

  variable_there : (start : Pos) (i j : Judged Place) → Follows P (λ p. MeantTied P (means.Place p)) (λ p. MeantIn P (means.Place p)) (Unit {0}) i j → MF (Unit {0}) (of_variable i) (of_variable j)
  variable_there start i j h = of_variable_follows P (Unit {0}) i j h

  -- ---- names of other modules

  exported_meant_follows : (start at : Pos) (m x : List ℕ) (d : Desc) → MF (Unit {0}) (exported_meant u start at m x d) (exported_meant v start at m x d)
  exported_meant_follows start at m x (desc.Const c) = plain (means.Constant c) tt
  exported_meant_follows start at m x (desc.Var k t) = variable_there start (variable_named u start (variable.Module m x) t (is_read_only k)) (variable_named v start (variable.Module m x) t (is_read_only k)) (variable_follows P u s a start (variable.Module m x) t (is_read_only k))
  exported_meant_follows start at m x (desc.Proc g) = plain (means.Procedure (record { «module» = m; object = x }) g) tt
  exported_meant_follows start at m x (desc.Alias k t) = meant_none (breaks rule.WrongKind at) (breaks rule.WrongKind at) refl
  exported_meant_follows start at m x (desc.Array k n t) = meant_none (breaks rule.WrongKind at) (breaks rule.WrongKind at) refl
  exported_meant_follows start at m x (desc.OpenArray k t) = meant_none (breaks rule.WrongKind at) (breaks rule.WrongKind at) refl
  exported_meant_follows start at m x (desc.Pointer k t) = meant_none (breaks rule.WrongKind at) (breaks rule.WrongKind at) refl
  exported_meant_follows start at m x (desc.ProcType k t) = meant_none (breaks rule.WrongKind at) (breaks rule.WrongKind at) refl
  exported_meant_follows start at m x (desc.Record r) = meant_none (breaks rule.WrongKind at) (breaks rule.WrongKind at) refl

  out_follows : (at : Pos) (o : Option OutProcedure) → MF (Unit {0}) (out_meant at o) (out_meant at o)
  out_follows at None = meant_none (breaks rule.NotDeclared at) (breaks rule.NotDeclared at) refl
  out_follows at (Some p) = plain (means.Out p) tt

  in_module_follows : (b : Bool) (start : Pos) (m : List ℕ) (x : Ident) → MF (Unit {0}) (in_module b u start m x) (in_module b v start m x)
  in_module_follows true start m x = out_follows x.pos (out_procedure x.name)
  in_module_follows false start m x =
      follows_then P (λ (e : QName × Desc). P e.0) (λ e. Unit {0}) (MeantTied P) (MeantIn P) (Unit {0}) (exported u m x) (exported v m x) (λ q. exported_meant u start x.pos m x.name q.1) (λ q. exported_meant v start x.pos m x.name q.1)
      (exported_follows P u s a m x) (λ q h. exported_meant_follows start x.pos m x.name q.1)

  module_follows : (start : Pos) (m : List ℕ) (o : Option Ident) → MF (Unit {0}) (module_front u start m o) (module_front v start m o)
  module_follows start m None = meant_none (breaks rule.WrongKind start) (breaks rule.WrongKind start) refl
  module_follows start m (Some y) = in_module_follows (is_out m) start m y

  -- ---- the name at the front

  front_follows : (x : Ident) (e : Entity) (dot : Option Ident) → MF (Unit {0}) (front_of u x e dot) (front_of v x e dot)
  front_follows x (entity.Constant c) dot = plain (means.Constant c) tt
  front_follows x (entity.Variable w t) dot = variable_there x.pos (variable_named u x.pos w t false) (variable_named v x.pos w t false) (variable_follows P u s a x.pos w t false)
  front_follows x (entity.Procedure n g) dot = plain (means.Procedure n g) tt
  front_follows x (entity.Forward n g) dot = plain (means.Procedure n g) tt
  front_follows x (entity.Predeclared f) dot = plain (means.Predeclared f) tt
  front_follows x (entity.Module m) dot = module_follows x.pos m dot
  front_follows x (entity.TypeName t) dot = meant_none (breaks rule.WrongKind x.pos) (breaks rule.WrongKind x.pos) refl
  front_follows x entity.LeftOut dot = meant_none (breaks rule.WrongKind x.pos) (breaks rule.WrongKind x.pos) refl
  front_follows x entity.Unsound dot = meant_none (breaks rule.WrongKind x.pos) (breaks rule.WrongKind x.pos) refl

  abbrev Behinds : List Behind → Type 0
  Behinds bs = AreBehind P u s a bs

  behind_in : (b : Bool) (bs : List Behind) → Behinds bs → Behinds (behind b bs)
  behind_in true (b ∷ bs) h = h.1
  behind_in true [] h = tt
  behind_in false bs h = h

  abbrev Tied : Meant × List Behind → Type 0
  Tied m = MeantTied P m.0 × Behinds m.1

  abbrev Mentioned : Meant × List Behind → Type 0
  Mentioned m = MeantIn P m.0

  whole_front : (x : Ident) (bs : List Behind) → Behinds bs → Follows P Tied Mentioned (Unit {0}) (front u x bs (named u x)) (front v x bs (named v x))
  whole_front x bs h =
      follows_then P (EntityIn P) (λ e. Unit {0}) Tied Mentioned (Unit {0}) (named u x) (named v x) (λ k. made (λ m. (m, behind (is_module k) bs)) (front_of u x k (dot_of bs))) (λ k. made (λ m. (m, behind (is_module k) bs)) (front_of v x k (dot_of bs)))
      (named_follows P u s a x)
      (λ k e. follows_made P (MeantTied P) (MeantIn P) Tied Mentioned (Unit {0}) (λ m. (m, behind (is_module k) bs)) (front_of u x k (dot_of bs)) (front_of v x k (dot_of bs)) (front_follows x k (dot_of bs)) (λ m t. (t, behind_in (is_module k) bs h)) (λ m t k. k))

  -- A DESIGNATOR is judged the same
  pub designates_follows : (w : Where) (x : Ident) (bs : List Behind) → Behinds bs → MF (Unit {0}) (designates u w x bs) (designates v w x bs)
  designates_follows w x bs h = record { keeps = λ y e said. kept i.node refl y e said; same = λ y e said m. same i.node refl y e said m }
    where
      i : Judged (Meant × List Behind)
      i = front u x bs (named u x)

      j : Judged (Meant × List Behind)
      j = front v x bs (named v x)

      f : Follows P Tied Mentioned (Unit {0}) i j
      f = whole_front x bs h

      kept : (o : Option (Meant × List Behind)) → i.node ≡ o → (y : Meant) → (from_front_with u w x.pos bs o).node ≡ Some y → SaidIn P (noted i.notes (from_front_with u w x.pos bs o)).notes → MeantTied P y
      kept None l y e said = none_some e
      kept (Some m) l y e said =
          let t = f.keeps m l (said_left P i.notes (through u w x.pos m.1 m.0).notes said) in
          (through_follows P u s a w x.pos m.1 m.0 t.0 t.1).keeps y e (said_right P i.notes (through u w x.pos m.1 m.0).notes said)

      same : (o : Option (Meant × List Behind)) → i.node ≡ o → (y : Meant) → (from_front_with u w x.pos bs o).node ≡ Some y → SaidIn P (noted i.notes (from_front_with u w x.pos bs o)).notes → MeantIn P y → Unit {0} × (from_front v w x.pos bs j ≡ noted i.notes (from_front_with u w x.pos bs o))
      same None l y e said m = none_some e
      same (Some n) l y e said m =
          let t = f.keeps n l (said_left P i.notes (through u w x.pos n.1 n.0).notes said) in
          let r = (through_follows P u s a w x.pos n.1 n.0 t.0 t.1).same y e (said_right P i.notes (through u w x.pos n.1 n.0).notes said) m in
          let q = f.same n l (said_left P i.notes (through u w x.pos n.1 n.0).notes said) r.0 in
          (tt, ap (λ z. from_front v w x.pos bs z) q.1 ∙ ap (λ o. noted i.notes (from_front_with v w x.pos bs o)) l ∙ ap (noted i.notes) r.1)

  -- ---- whether it is one name of a type

  abbrev Named : Option Qualident → Type 0
  Named o = NameSame P u s a o

  in_named : (b : Bool) (start : Pos) (n : List ℕ) (y : Ident) (m : Meant) → is_out n ≡ b → (in_module b u start n y).node ≡ Some m → SaidIn P (in_module b u start n y).notes → is_type_desc (shown_of (s (record { «module» = n; object = y.name }))) ≡ is_type_desc (shown_of (u.shown (record { «module» = n; object = y.name })))
  in_named true start n y m o e said = shown_same P u s a (record { «module» = n; object = y.name }) (a.out (record { «module» = n; object = y.name }) o)
  in_named false start n y m o e said =
      let k = then_node (exported u n y) (λ q. exported_meant u start y.pos n y.name q.1) m e in
      shown_same P u s a (record { «module» = n; object = y.name }) (a.same (record { «module» = n; object = y.name }) (exported_in P u s a n y k.0 k.1 (front_said P (exported u n y) (λ q. exported_meant u start y.pos n y.name q.1) said)))

  entity_named : (x y : Ident) (k : Known) (w : Entity) (bs : List Behind) (m : Meant × List Behind) → dot_of bs ≡ Some y → (front u x bs (entity_known u x.pos k.scope w)).node ≡ Some m → SaidIn P (front u x bs (entity_known u x.pos k.scope w)).notes → is_type_behind v y.name w ≡ is_type_behind u y.name w
  entity_named x y k (entity.Module n) bs m d e said =
      let h = then_node (front_of u x (entity.Module n) (dot_of bs)) (λ z. sound (z, behind true bs)) m e in
      let i : (module_front u x.pos n (Some y)).node ≡ Some h.0 = sym (ap (λ o. (module_front u x.pos n o).node) d) ∙ h.1 in
      let l = subst (λ o. SaidIn P (module_front u x.pos n o).notes) d (front_said P (front_of u x (entity.Module n) (dot_of bs)) (λ z. sound (z, behind true bs)) (said_right P (entity_known u x.pos k.scope (entity.Module n)).notes (made (λ z. (z, behind true bs)) (front_of u x (entity.Module n) (dot_of bs))).notes said)) in
      in_named (is_out n) x.pos n y h.0 refl i l
  entity_named x y k (entity.Variable w t) bs m d e said = refl
  entity_named x y k (entity.TypeName t) bs m d e said = refl
  entity_named x y k (entity.Constant c) bs m d e said = refl
  entity_named x y k (entity.Procedure n g) bs m d e said = refl
  entity_named x y k (entity.Forward n g) bs m d e said = refl
  entity_named x y k (entity.Predeclared f) bs m d e said = refl
  entity_named x y k entity.LeftOut bs m d e said = refl
  entity_named x y k entity.Unsound bs m d e said = refl

  known_named : (x y : Ident) (o : Option Known) (bs : List Behind) (m : Meant × List Behind) → dot_of bs ≡ Some y → (front u x bs (name_known u x.pos o)).node ≡ Some m → SaidIn P (front u x bs (name_known u x.pos o)).notes → known_is (is_type_behind v y.name) o ≡ known_is (is_type_behind u y.name) o
  known_named x y None bs m d e said = refl
  known_named x y (Some k) bs m d e said = entity_named x y k k.what bs m d e said

  from_node : (w : Where) (x : Ident) (bs : List Behind) (j : Judged (Meant × List Behind)) (y : Meant) → (from_front u w x.pos bs j).node ≡ Some y → (m : Meant × List Behind) × (j.node ≡ Some m)
  from_node w x bs j y = by j.node refl
    where
      by : (o : Option (Meant × List Behind)) → j.node ≡ o → (from_front_with u w x.pos bs o).node ≡ Some y → (m : Meant × List Behind) × (j.node ≡ Some m)
      by None k e = none_some e
      by (Some m) k e = (m, k)

  -- a designator that is a qualified name tells whether that is a type's
  pub designates_named : (w : Where) (x y : Ident) (at : Pos) (m : Meant) → (designates u w x (Dot at y ∷ [])).node ≡ Some m → SaidIn P (designates u w x (Dot at y ∷ [])).notes → Named (Some (record { qualifier = Some x; ident = y }))
  designates_named w x y at m e said =
      let j = front u x (Dot at y ∷ []) (named u x) in
      let n = from_node w x (Dot at y ∷ []) j m e in
      known_named x y (find_name u.known x.name) (Dot at y ∷ []) n.0 refl n.1 (said_left P j.notes (from_front_with u w x.pos (Dot at y ∷ []) j.node).notes said)
