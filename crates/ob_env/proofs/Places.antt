-- What stands at a position.
use Rattle.std.proofs.Common.{◌≡◌, ℕ, List, Option, Some, None, sym, ap, ◌∙◌}
use Rattle.std.specs.Prelude.{slice_get}
use Rattle.std.specs.Option.{option_map}
use Rattle.ob_format.specs.Format.{◌>>=◌}
use Rattle.ob_tree.specs.declared.names.QName.{QName}
use Rattle.ob_types.specs.declared.face.Object.{Object}
use Rattle.ob_types.specs.declared.face.Interface.{Interface}
use Rattle.ob_layout.specs.Index.{Positions, at_name, IsIndexOf, first_by}
use Rattle.ob_layout.proofs.Names.{by_index, by_index_none}
use Rattle.ob_env_files.specs.Names.{ObjectIndex, under_names}
use Rattle.ob_env.specs.Found.{object_by_name, interface_by_name, module_names, object_placed, object_found}

-- ---- what is found

pub placed_none : (is : List Interface) (k : ℕ) (x : List ℕ) → None ≡ slice_get is k → None ≡ object_placed is k x
placed_none is k x e = ap (λ (o : Option Interface). o >>= λ i. object_by_name i.objects x) e

pub placed_some : (is : List Interface) (k : ℕ) (x : List ℕ) (i : Interface) (r : Option Object) → Some i ≡ slice_get is k → r ≡ object_by_name i.objects x → r ≡ object_placed is k x
placed_some is k x i r e f = f ∙ ap (λ (o : Option Interface). o >>= λ j. object_by_name j.objects x) e

pub found_none : (is : List Interface) (m : Positions) (q : QName) (bytes : List ℕ) → bytes ≡ q.«module» → IsIndexOf m (module_names is) → None ≡ at_name m bytes → None ≡ object_found is q
found_none is m q bytes e index none =
    let f = by_index_none (λ i. i.«module») m is bytes index none in
    sym (ap (λ (o : Option Interface). o >>= λ i. object_by_name i.objects q.object) (ap (λ (l : List ℕ). first_by (λ i. i.«module») is l) (sym e) ∙ f))

pub found_at : (is : List Interface) (m : Positions) (q : QName) (bytes name : List ℕ) (k : ℕ) (r : Option Object) → bytes ≡ q.«module» → name ≡ q.object → IsIndexOf m (module_names is) → Some k ≡ at_name m bytes → r ≡ object_placed is k name → r ≡ object_found is q
found_at is m q bytes name k r e n index some placed =
    let f = by_index (λ i. i.«module») m is bytes k index some in
    placed ∙ ap (λ (l : List ℕ). object_placed is k l) n ∙ sym (ap (λ (o : Option Interface). o >>= λ i. object_by_name i.objects q.object) (ap (λ (l : List ℕ). first_by (λ i. i.«module») is l) (sym e) ∙ f))

-- ---- the objects of an interface under their names

abbrev pub entries_in : Option ObjectIndex → Option (List (List ℕ × Object))
entries_in o = option_map (λ (m : ObjectIndex). m.entries) o

abbrev pub listed : Option Interface → Option (List (List ℕ × Object))
listed o = option_map (λ (i : Interface). under_names i.objects) o

pub indexed_none : (is : List Interface) (k : ℕ) → None ≡ slice_get is k → None ≡ listed (slice_get is k)
indexed_none is k e = ap listed e

pub indexed_some : (is : List Interface) (k : ℕ) (i : Interface) (entries : List (List ℕ × Object)) → Some i ≡ slice_get is k → entries ≡ under_names i.objects → Some entries ≡ listed (slice_get is k)
indexed_some is k i entries e f = ap (λ l. Some l) f ∙ ap listed e

pub indexed_no : (is : List Interface) (m : Positions) (name bytes : List ℕ) → bytes ≡ name → IsIndexOf m (module_names is) → None ≡ at_name m bytes → None ≡ listed (interface_by_name is name)
indexed_no is m name bytes e index none =
    sym (ap listed (ap (λ (l : List ℕ). interface_by_name is l) (sym e) ∙ by_index_none (λ i. i.«module») m is bytes index none))

pub indexed_at : (is : List Interface) (m : Positions) (name bytes : List ℕ) (k : ℕ) (r : Option (List (List ℕ × Object))) → bytes ≡ name → IsIndexOf m (module_names is) → Some k ≡ at_name m bytes → r ≡ listed (slice_get is k) → r ≡ listed (interface_by_name is name)
indexed_at is m name bytes k r e index some placed =
    placed ∙ sym (ap listed (ap (λ (l : List ℕ). interface_by_name is l) (sym e) ∙ by_index (λ i. i.«module») m is bytes k index some))
