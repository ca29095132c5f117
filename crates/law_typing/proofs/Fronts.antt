-- The name at a designator's front, and the designator.
use Rattle.std.proofs.Common.{◌≡◌, refl, ℕ, List, [], ◌∷◌, Option, Some, None, Bool, true, false}
use Rattle.std.specs.Prelude.{bytes_eq}
use Rattle.ob_tree.specs.declared.pos.Pos.{Pos}
use Rattle.ob_tree.specs.declared.names.QName.{QName}
use Rattle.ob_tree.specs.declared.ident.Ident.{Ident}
use Rattle.ob_types.specs.declared.types.TypeRef.{TypeRef}
use Rattle.ob_types.specs.declared.desc.Desc.{Desc}
use Rattle.ob_types.specs.declared.desc.Desc.TheVariants as desc
use Rattle.ob_types.specs.declared.typed.OutProcedure.{OutProcedure}
use Rattle.ob_types.specs.declared.typed.Variable.{Variable}
use Rattle.ob_types.specs.declared.typed.Variable.TheVariants as variable
use Rattle.ob_meaning.specs.Values.{Program, Formals, Held}
use Rattle.ob_rules.specs.declared.entity.Entity.{Entity}
use Rattle.ob_rules.specs.declared.entity.Entity.TheVariants as entity
use Rattle.ob_rules.specs.declared.entity.Known.{Known}
use Rattle.ob_rules.specs.declared.meant.Meant.{Meant}
use Rattle.ob_rules.specs.declared.meant.Meant.TheVariants as means
use Rattle.ob_rules.specs.declared.meant.Where.{Where}
use Rattle.ob_rules.specs.Judged.{sound, made, ◌▷◌}
use Rattle.ob_rules.specs.Names.{Around, map_of, find_name, is_enclosing, variable_known, entity_known, name_known, named, is_out, shown_of, export_known, out_procedure}
use Rattle.ob_rules.specs.Phrases.{Behind}
use Rattle.ob_rules.specs.Designators.{variable_named, of_variable, is_read_only, exported_meant, out_meant, in_module, dot_of, module_front, front_of, is_module, behind, front, from_front_with, designates}
use Rattle.law_typing.specs.Makes.{IfThere, Makes}
use Rattle.law_typing.specs.Known.{VariableIs, IsScoped}
use Rattle.law_typing.specs.Kept.{PlaceIs}
use Rattle.law_typing.specs.Meant.{GuardIs, RootIs, MeantIs, AreBehind}
use Rattle.law_typing.proofs.Makes.{makes_then, makes_made}
use Rattle.law_typing.proofs.Roots.{rooted_is}
use Rattle.law_typing.proofs.Shown.{shown_is}
use Rattle.law_typing.proofs.Selectors.{through_is}

module _ (program : Program) (Has : Formals → QName → Type 0) (unit : List ℕ) (held : List Held) (result : Option TypeRef) (u : Around) (scoped : IsScoped program Has unit held result u) where
  abbrev M : Where → Meant → Type 0
  M w m = MeantIs program Has unit held result (map_of u) u.receiver w m

  -- what a name means is no call
  abbrev Front : Meant → Type 0
  Front m = (w : Where) → M w m

  -- what is known of the name
  pub record EntityIs (x : Ident) (e : Entity) : Type 0 where
    pub k : Known
    pub known : find_name u.known x.name ≡ Some k
    pub is : k.what ≡ e
    pub near : (v : Variable) (t : TypeRef) → e ≡ entity.Variable v t → is_enclosing u k.scope ≡ false

  variable_there : (x : Ident) (k : Known) (v : Variable) (t : TypeRef) (b : Bool) → is_enclosing u k.scope ≡ b → find_name u.known x.name ≡ Some k → k.what ≡ entity.Variable v t → Makes (EntityIs x) (variable_known b x.pos (entity.Variable v t))
  variable_there x k v t true e f g = record { node = tt }
  variable_there x k v t false e f g = record { node = record { k = k; known = f; is = g; near = λ w s h. e } }

  entity_there : (x : Ident) (k : Known) (e : Entity) → find_name u.known x.name ≡ Some k → k.what ≡ e → Makes (EntityIs x) (entity_known u x.pos k.scope e)
  entity_there x k entity.LeftOut f g = record { node = tt }
  entity_there x k entity.Unsound f g = record { node = tt }
  entity_there x k (entity.Variable v t) f g = variable_there x k v t (is_enclosing u k.scope) refl f g
  entity_there x k (entity.Constant c) f g = record { node = record { k = k; known = f; is = g; near = λ v t e. absurd cc } }
  entity_there x k (entity.TypeName t) f g = record { node = record { k = k; known = f; is = g; near = λ v t e. absurd cc } }
  entity_there x k (entity.Procedure q s) f g = record { node = record { k = k; known = f; is = g; near = λ v t e. absurd cc } }
  entity_there x k (entity.Forward q s) f g = record { node = record { k = k; known = f; is = g; near = λ v t e. absurd cc } }
  entity_there x k (entity.Module m) f g = record { node = record { k = k; known = f; is = g; near = λ v t e. absurd cc } }
  entity_there x k (entity.Predeclared p) f g = record { node = record { k = k; known = f; is = g; near = λ v t e. absurd cc } }

  name_there : (x : Ident) (o : Option Known) → find_name u.known x.name ≡ o → Makes (EntityIs x) (name_known u x.pos o)
  name_there x None e = record { node = tt }
  name_there x (Some k) e = entity_there x k k.what e refl

  pub named_is : (x : Ident) → Makes (EntityIs x) (named u x)
  named_is x = name_there x (find_name u.known x.name) refl

  variable_meant : (at : Pos) (v : Variable) (t : TypeRef) (read_only : Bool) → VariableIs program Has unit held result (map_of u) v t → Makes Front (of_variable (variable_named u at v t read_only))
  variable_meant at v t read_only h = makes_then (λ p. PlaceIs program Has unit held result (map_of u) p × RootIs program Has unit held result (map_of u) u.receiver p × GuardIs p) Front (variable_named u at v t read_only) (λ q. sound (means.Place q)) (rooted_is program Has unit held result (map_of u) scoped.forms u.receiver at v t read_only u.guards h (λ r e f. scoped.receivers r v t e f h) scoped.guards) (λ q k. record { node = λ w. k })

  exported_is : (start at : Pos) (m x : List ℕ) (d : Desc) → is_out m ≡ false → bytes_eq m u.unit ≡ false → u.shown (record { «module» = m; object = x }) ≡ Some d → Makes Front (exported_meant u start at m x d)
  exported_is start at m x (desc.Const c) a b e = record { node = λ w. scoped.shown_constants (record { «module» = m; object = x }) c e }
  exported_is start at m x (desc.Var k t) a b e = variable_meant start (variable.Module m x) t (is_read_only k) (scoped.shown_variables (record { «module» = m; object = x }) k t a b e)
  exported_is start at m x (desc.Proc s) a b e = record { node = λ w. scoped.shown_procedures (record { «module» = m; object = x }) s a b e }
  exported_is start at m x (desc.Alias k t) a b e = record { node = tt }
  exported_is start at m x (desc.Array k n t) a b e = record { node = tt }
  exported_is start at m x (desc.OpenArray k t) a b e = record { node = tt }
  exported_is start at m x (desc.Pointer k t) a b e = record { node = tt }
  exported_is start at m x (desc.ProcType k s) a b e = record { node = tt }
  exported_is start at m x (desc.Record r) a b e = record { node = tt }

  out_there : (at : Pos) (o : Option OutProcedure) → Makes Front (out_meant at o)
  out_there at None = record { node = tt }
  out_there at (Some p) = record { node = λ w. tt }

  shown_there : (start : Pos) (m : List ℕ) (x : Ident) (o : Option Desc) → is_out m ≡ false → bytes_eq m u.unit ≡ false → shown_of (u.shown (record { «module» = m; object = x.name })) ≡ o → Makes Front (export_known (record { «module» = m; object = x.name }) x.pos o ▷ λ q. exported_meant u start x.pos m x.name q.1)
  shown_there start m x None a b e = record { node = tt }
  shown_there start m x (Some d) a b e = record { node = (exported_is start x.pos m x.name d a b (shown_is (u.shown (record { «module» = m; object = x.name })) d e)).node }

  module_there : (b : Bool) (start : Pos) (m : List ℕ) (x : Ident) → is_out m ≡ b → bytes_eq m u.unit ≡ false → Makes Front (in_module b u start m x)
  module_there true start m x a b = out_there x.pos (out_procedure x.name)
  module_there false start m x a b = shown_there start m x (shown_of (u.shown (record { «module» = m; object = x.name }))) a b refl

  module_is : (start : Pos) (m : List ℕ) (o : Option Ident) → bytes_eq m u.unit ≡ false → Makes Front (module_front u start m o)
  module_is start m None b = record { node = tt }
  module_is start m (Some y) b = module_there (is_out m) start m y refl b

  front_is : (x : Ident) (e : Entity) (dot : Option Ident) → EntityIs x e → Makes Front (front_of u x e dot)
  front_is x (entity.Constant c) dot h = record { node = λ w. scoped.constants x.name h.k c h.known h.is }
  front_is x (entity.Variable v t) dot h = variable_meant x.pos v t false (scoped.variables x.name h.k v t h.known h.is (h.near v t refl))
  front_is x (entity.Procedure q s) dot h = record { node = λ w. scoped.procedures x.name h.k q s h.known h.is }
  front_is x (entity.Forward q s) dot h = record { node = λ w. scoped.forwards x.name h.k q s h.known h.is }
  front_is x (entity.Predeclared f) dot h = record { node = λ w. tt }
  front_is x (entity.Module m) dot h = module_is x.pos m dot (scoped.imports x.name h.k m h.known h.is)
  front_is x (entity.TypeName t) dot h = record { node = tt }
  front_is x entity.LeftOut dot h = record { node = tt }
  front_is x entity.Unsound dot h = record { node = tt }

  behind_there : (b : Bool) (bs : List Behind) → AreBehind program Has unit held result bs → AreBehind program Has unit held result (behind b bs)
  behind_there true (b ∷ bs) h = h.1
  behind_there true [] h = tt
  behind_there false bs h = h

  abbrev Starts : Meant × List Behind → Type 0
  Starts m = Front m.0 × AreBehind program Has unit held result m.1

  whole_front : (x : Ident) (bs : List Behind) → AreBehind program Has unit held result bs → Makes Starts (front u x bs (named u x))
  whole_front x bs h = makes_then (EntityIs x) Starts (named u x) (λ k. made (λ m. (m, behind (is_module k) bs)) (front_of u x k (dot_of bs))) (named_is x) λ k e.
      makes_made Front Starts (front_of u x k (dot_of bs)) (λ m. (m, behind (is_module k) bs)) (front_is x k (dot_of bs) e) (λ m f. (f, behind_there (is_module k) bs h))

  from_there : (w : Where) (start : Pos) (bs : List Behind) (o : Option (Meant × List Behind)) → IfThere Starts o → IfThere (M w) (from_front_with u w start bs o).node
  from_there w start bs None h = tt
  from_there w start bs (Some m) h = (through_is program Has unit held result u scoped w w start m.1 m.0 (h.0 w) (λ e. refl) h.1).node

  -- a designator that keeps the rules
  pub designates_is : (w : Where) (x : Ident) (bs : List Behind) → AreBehind program Has unit held result bs → Makes (M w) (designates u w x bs)
  designates_is w x bs h = record { node = from_there w x.pos bs (front u x bs (named u x)).node (whole_front x bs h).node }
