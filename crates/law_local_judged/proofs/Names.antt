-- What names mean, with other interfaces around.
use Rattle.std.proofs.Common.{◌≡◌, refl, ap, ◌∙◌, subst, ℕ, List, [], ◌∷◌, Option, Some, None, Bool, true, false}
use Rattle.std.specs.Prelude.{bytes_eq, cond}
use Rattle.std.specs.List.{AllByRecursion, find}
use Rattle.ob_tree.specs.declared.pos.Pos.{Pos}
use Rattle.ob_tree.specs.declared.names.QName.{QName}
use Rattle.ob_tree.specs.declared.ident.Ident.{Ident}
use Rattle.ob_tree.specs.declared.ident.Qualident.{Qualident}
use Rattle.ob_types.specs.declared.types.TypeRef.{TypeRef}
use Rattle.ob_types.specs.declared.desc.Desc.{Desc}
use Rattle.ob_types.specs.declared.desc.Desc.TheVariants as desc
use Rattle.ob_types.specs.declared.typed.TypedType.{TypedType}
use Rattle.ob_types.specs.declared.typed.OutProcedure.{OutProcedure}
use Rattle.ob_rules.specs.declared.entity.Entity.{Entity}
use Rattle.ob_rules.specs.declared.entity.Entity.TheVariants as entity
use Rattle.ob_rules.specs.declared.entity.Known.{Known}
use Rattle.ob_rules.specs.declared.broken.Rule.TheVariants as rule
use Rattle.ob_rules.specs.Judged.{Judged, breaks, ◌▷◌}
use Rattle.ob_rules.specs.Shapes.{same_name}
use Rattle.ob_rules.specs.Names.{Around, own_desc, out_string, type_desc, map_of, find_name, variable_known, is_enclosing, entity_known, name_known, named, shown_of, export_known, exported, out_procedure, is_out, type_of_desc, out_type, type_in, type_of_entity, type_behind, unless_variable_is, unless_variable, type_by, type_named}
use Rattle.law_local_judged.specs.Agreement.{IsIn, DescIn, Agree}
use Rattle.law_local_judged.specs.Followed.{beside, EntityIn, Agrees, Follows}
use Rattle.law_local_judged.proofs.Following.{follows_none, follows_then}
use Rattle.law_lists.proofs.Lists.{none_some, some_same}

pub found : {A : Type 0} (P : A → Type 0) (test : A → Bool) (xs : List A) (y : A) → AllByRecursion P xs → find test xs ≡ Some y → P y
found P test [] y all e = none_some e
found P test (x ∷ xs) y all e = by (test x) e (λ e. found P test xs y all.1 e)
  where
    by : (b : Bool) → cond b (Some x) (find test xs) ≡ Some y → (find test xs ≡ Some y → P y) → P y
    by true e r = subst P (some_same e) all.0
    by false e r = r e

module _ (P : QName → Type 0) (u : Around) (s : QName → Option Desc) (a : Agrees P u s) where
  abbrev v : Around
  v = beside u s

  -- ---- the maps

  map_same : (b c : Bool) (q : QName) → P q → type_desc b c v q ≡ type_desc b c u q
  map_same true c q h = refl
  map_same false true q h = refl
  map_same false false q h = a.same q h

  own_near : (test : TypedType → Bool) (ts : List TypedType) → AllByRecursion (λ t. DescIn P (Some t.desc)) ts → (o : Option TypedType) → find test ts ≡ o → DescIn P (own_desc o)
  own_near test ts h None e = tt
  own_near test ts h (Some t) e = found (λ t. DescIn P (Some t.desc)) test ts t h e

  map_near : (b c : Bool) (q : QName) → P q → DescIn P (type_desc b c u q)
  map_near true c q h = own_near (λ t. bytes_eq t.name q.object) u.own a.own (find (λ t. bytes_eq t.name q.object) u.own) refl
  map_near false true q h = (tt, tt)
  map_near false false q h = a.near q h

  pub maps_agree : Agree P (map_of u) (map_of v)
  maps_agree = record {
    same = λ q h. map_same (bytes_eq q.module u.unit) (same_name q out_string) q h;
    near = λ q h. map_near (bytes_eq q.module u.unit) (same_name q out_string) q h;
  }

  -- ---- known names

  pub known_in : (x : List ℕ) (k : Known) → find_name u.known x ≡ Some k → EntityIn P k.what
  known_in x k e = found (λ k. EntityIn P k.what) (λ k. bytes_eq k.name x) u.known k a.known e

  entity_same : (at : Pos) (scope : ℕ) (e : Entity) → entity_known v at scope e ≡ entity_known u at scope e
  entity_same at scope (entity.Variable w t) = refl
  entity_same at scope (entity.TypeName t) = refl
  entity_same at scope (entity.Constant c) = refl
  entity_same at scope (entity.Procedure n g) = refl
  entity_same at scope (entity.Forward n g) = refl
  entity_same at scope (entity.Predeclared f) = refl
  entity_same at scope (entity.Module m) = refl
  entity_same at scope entity.LeftOut = refl
  entity_same at scope entity.Unsound = refl

  variable_in : (b : Bool) (at : Pos) (e x : Entity) → EntityIn P e → (variable_known b at e).node ≡ Some x → EntityIn P x
  variable_in true at e x h k = none_some k
  variable_in false at e x h k = subst (EntityIn P) (some_same k) h

  entity_in : (at : Pos) (scope : ℕ) (e x : Entity) → EntityIn P e → (entity_known u at scope e).node ≡ Some x → EntityIn P x
  entity_in at scope (entity.Variable w t) x h k = variable_in (is_enclosing u scope) at (entity.Variable w t) x h k
  entity_in at scope (entity.TypeName t) x h k = subst (EntityIn P) (some_same k) h
  entity_in at scope (entity.Constant c) x h k = subst (EntityIn P) (some_same k) h
  entity_in at scope (entity.Procedure n g) x h k = subst (EntityIn P) (some_same k) h
  entity_in at scope (entity.Forward n g) x h k = subst (EntityIn P) (some_same k) h
  entity_in at scope (entity.Predeclared f) x h k = subst (EntityIn P) (some_same k) h
  entity_in at scope (entity.Module m) x h k = subst (EntityIn P) (some_same k) h
  entity_in at scope entity.LeftOut x h k = none_some k
  entity_in at scope entity.Unsound x h k = none_some k

  pub entity_follows : (at : Pos) (scope : ℕ) (e : Entity) → EntityIn P e → Follows P (EntityIn P) (λ x. Unit {0}) (Unit {0}) (entity_known u at scope e) (entity_known v at scope e)
  entity_follows at scope e h = record { keeps = λ x k said. entity_in at scope e x h k; same = λ x k said m. (tt, entity_same at scope e) }

  pub named_follows : (x : Ident) → Follows P (EntityIn P) (λ x. Unit {0}) (Unit {0}) (named u x) (named v x)
  named_follows x = by (find_name u.known x.name) refl
    where
      by : (o : Option Known) → find_name u.known x.name ≡ o → Follows P (EntityIn P) (λ x. Unit {0}) (Unit {0}) (name_known u x.pos o) (name_known v x.pos o)
      by None e = follows_none P (EntityIn P) (λ x. Unit {0}) (Unit {0}) (breaks rule.NotDeclared x.pos) (breaks rule.NotDeclared x.pos) refl
      by (Some k) e = entity_follows x.pos k.scope k.what (known_in x.name k e)

  -- ---- what an imported module shows

  abbrev Exported : QName × Desc → Type 0
  Exported e = P e.0

  pub exported_follows : (m : List ℕ) (x : Ident) → Follows P Exported (λ x. Unit {0}) (Unit {0}) (exported u m x) (exported v m x)
  exported_follows m x = by (shown_of (u.shown (record { «module» = m; object = x.name }))) refl
    where
      q : QName
      q = record { «module» = m; object = x.name }

      by : (o : Option Desc) → shown_of (u.shown q) ≡ o → Follows P Exported (λ x. Unit {0}) (Unit {0}) (export_known q x.pos o) (export_known q x.pos (shown_of (s q)))
      by None e = follows_none P Exported (λ x. Unit {0}) (Unit {0}) (breaks rule.NotDeclared x.pos) (export_known q x.pos (shown_of (s q))) refl
      by (Some d) e = record {
        keeps = λ y k said. subst Exported (some_same k) said.objects.0;
        same = λ y k said m. (tt, ap (λ o. export_known q x.pos (shown_of o)) (a.same q said.objects.0) ∙ ap (export_known q x.pos) e);
      }

  -- ---- the name of a type

  abbrev TF : Judged TypeRef → Judged TypeRef → Type 0
  TF i j = Follows P (IsIn P) (λ x. Unit {0}) (Unit {0}) i j

  none_follows : (i j : Judged TypeRef) → i.node ≡ None → TF i j
  none_follows i j e = follows_none P (IsIn P) (λ x. Unit {0}) (Unit {0}) i j e

  desc_follows : (at : Pos) (q : QName) (d : Desc) → P q → TF (type_of_desc at q d) (type_of_desc at q d)
  desc_follows at q (desc.Const c) h = none_follows (breaks rule.WrongKind at) (breaks rule.WrongKind at) refl
  desc_follows at q (desc.Var m t) h = none_follows (breaks rule.WrongKind at) (breaks rule.WrongKind at) refl
  desc_follows at q (desc.Proc g) h = none_follows (breaks rule.WrongKind at) (breaks rule.WrongKind at) refl
  desc_follows at q (desc.Alias m t) h = record { keeps = λ y k said. subst (IsIn P) (some_same k) h; same = λ y k said m. (tt, refl) }
  desc_follows at q (desc.Array m n t) h = record { keeps = λ y k said. subst (IsIn P) (some_same k) h; same = λ y k said m. (tt, refl) }
  desc_follows at q (desc.OpenArray m t) h = record { keeps = λ y k said. subst (IsIn P) (some_same k) h; same = λ y k said m. (tt, refl) }
  desc_follows at q (desc.Pointer m t) h = record { keeps = λ y k said. subst (IsIn P) (some_same k) h; same = λ y k said m. (tt, refl) }
  desc_follows at q (desc.ProcType m t) h = record { keeps = λ y k said. subst (IsIn P) (some_same k) h; same = λ y k said m. (tt, refl) }
  desc_follows at q (desc.Record r) h = record { keeps = λ y k said. subst (IsIn P) (some_same k) h; same = λ y k said m. (tt, refl) }

  out_follows : (at : Pos) (o : Option OutProcedure) → TF (out_type at o) (out_type at o)
  out_follows at None = none_follows (breaks rule.NotDeclared at) (breaks rule.NotDeclared at) refl
  out_follows at (Some p) = none_follows (breaks rule.WrongKind at) (breaks rule.WrongKind at) refl

  type_in_follows : (b : Bool) (m : List ℕ) (x : Ident) → TF (type_in b u m x) (type_in b v m x)
  type_in_follows true m x = out_follows x.pos (out_procedure x.name)
  type_in_follows false m x = follows_then P Exported (λ x. Unit {0}) (IsIn P) (λ x. Unit {0}) (Unit {0}) (exported u m x) (exported v m x) (λ e. type_of_desc x.pos e.0 e.1) (λ e. type_of_desc x.pos e.0 e.1) (exported_follows m x) (λ e h. desc_follows x.pos e.0 e.1 h)

  behind_follows : (m x : Ident) (e : Entity) → TF (type_behind u m x e) (type_behind v m x e)
  behind_follows m x (entity.Module n) = type_in_follows (is_out n) n x
  behind_follows m x (entity.Variable w t) = none_follows (breaks rule.WrongKind m.pos) (breaks rule.WrongKind m.pos) refl
  behind_follows m x (entity.TypeName t) = none_follows (breaks rule.WrongKind m.pos) (breaks rule.WrongKind m.pos) refl
  behind_follows m x (entity.Constant c) = none_follows (breaks rule.WrongKind m.pos) (breaks rule.WrongKind m.pos) refl
  behind_follows m x (entity.Procedure n g) = none_follows (breaks rule.WrongKind m.pos) (breaks rule.WrongKind m.pos) refl
  behind_follows m x (entity.Forward n g) = none_follows (breaks rule.WrongKind m.pos) (breaks rule.WrongKind m.pos) refl
  behind_follows m x (entity.Predeclared f) = none_follows (breaks rule.WrongKind m.pos) (breaks rule.WrongKind m.pos) refl
  behind_follows m x entity.LeftOut = none_follows (breaks rule.WrongKind m.pos) (breaks rule.WrongKind m.pos) refl
  behind_follows m x entity.Unsound = none_follows (breaks rule.WrongKind m.pos) (breaks rule.WrongKind m.pos) refl

  of_entity_follows : (at : Pos) (e : Entity) → EntityIn P e → TF (type_of_entity at e) (type_of_entity at e)
  of_entity_follows at (entity.TypeName t) h = record { keeps = λ y k said. subst (IsIn P) (some_same k) h; same = λ y k said m. (tt, refl) }
  of_entity_follows at (entity.Module n) h = none_follows (breaks rule.WrongKind at) (breaks rule.WrongKind at) refl
  of_entity_follows at (entity.Variable w t) h = none_follows (breaks rule.WrongKind at) (breaks rule.WrongKind at) refl
  of_entity_follows at (entity.Constant c) h = none_follows (breaks rule.WrongKind at) (breaks rule.WrongKind at) refl
  of_entity_follows at (entity.Procedure n g) h = none_follows (breaks rule.WrongKind at) (breaks rule.WrongKind at) refl
  of_entity_follows at (entity.Forward n g) h = none_follows (breaks rule.WrongKind at) (breaks rule.WrongKind at) refl
  of_entity_follows at (entity.Predeclared f) h = none_follows (breaks rule.WrongKind at) (breaks rule.WrongKind at) refl
  of_entity_follows at entity.LeftOut h = none_follows (breaks rule.WrongKind at) (breaks rule.WrongKind at) refl
  of_entity_follows at entity.Unsound h = none_follows (breaks rule.WrongKind at) (breaks rule.WrongKind at) refl

  other_follows : (x : Ident) (k : Known) (e : Entity) (f g : Entity → Judged TypeRef) → EntityIn P e → ((e : Entity) → EntityIn P e → TF (f e) (g e)) → TF (entity_known u x.pos k.scope e ▷ f) (entity_known v x.pos k.scope e ▷ g)
  other_follows x k e f g h i = follows_then P (EntityIn P) (λ x. Unit {0}) (IsIn P) (λ x. Unit {0}) (Unit {0}) (entity_known u x.pos k.scope e) (entity_known v x.pos k.scope e) f g (entity_follows x.pos k.scope e h) i

  is_follows : (x : Ident) (k : Known) (e : Entity) (f g : Entity → Judged TypeRef) → EntityIn P e → ((e : Entity) → EntityIn P e → TF (f e) (g e)) → TF (unless_variable_is u x k e f) (unless_variable_is v x k e g)
  is_follows x k (entity.Variable w t) f g h i = none_follows (breaks rule.WrongKind x.pos) (breaks rule.WrongKind x.pos) refl
  is_follows x k (entity.TypeName t) f g h i = other_follows x k (entity.TypeName t) f g h i
  is_follows x k (entity.Module n) f g h i = other_follows x k (entity.Module n) f g h i
  is_follows x k (entity.Constant c) f g h i = other_follows x k (entity.Constant c) f g h i
  is_follows x k (entity.Procedure n b) f g h i = other_follows x k (entity.Procedure n b) f g h i
  is_follows x k (entity.Forward n b) f g h i = other_follows x k (entity.Forward n b) f g h i
  is_follows x k (entity.Predeclared b) f g h i = other_follows x k (entity.Predeclared b) f g h i
  is_follows x k entity.LeftOut f g h i = other_follows x k entity.LeftOut f g h i
  is_follows x k entity.Unsound f g h i = other_follows x k entity.Unsound f g h i

  unless_follows : (x : Ident) (f g : Entity → Judged TypeRef) → ((e : Entity) → EntityIn P e → TF (f e) (g e)) → TF (unless_variable u x (find_name u.known x.name) f) (unless_variable v x (find_name u.known x.name) g)
  unless_follows x f g i = by (find_name u.known x.name) refl
    where
      by : (o : Option Known) → find_name u.known x.name ≡ o → TF (unless_variable u x o f) (unless_variable v x o g)
      by None e = none_follows (breaks rule.NotDeclared x.pos) (breaks rule.NotDeclared x.pos) refl
      by (Some k) e = is_follows x k k.what f g (known_in x.name k e) i

  type_by_follows : (o : Option Ident) (x : Ident) → TF (type_by u o x) (type_by v o x)
  type_by_follows None x = unless_follows x (type_of_entity x.pos) (type_of_entity x.pos) (λ e h. of_entity_follows x.pos e h)
  type_by_follows (Some m) x = unless_follows m (type_behind u m x) (type_behind v m x) (λ e h. behind_follows m x e)

  -- THE NAME OF A TYPE is judged the same
  pub type_named_follows : (q : Qualident) → TF (type_named u q) (type_named v q)
  type_named_follows q = type_by_follows q.qualifier q.ident
