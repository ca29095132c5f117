-- The types that headings of a checked module know, and those that procedures are bound to, are early types of the module.
use Rattle.std.proofs.Common.{◌≡◌, ◌≢◌, refl, sym, ap, ◌∙◌, subst, Bool, true, false, ℕ, List, [], ◌∷◌, Option, Some, None}
use Rattle.std.specs.Prelude.{◌&&◌, not, bytes_eq, ◌||◌}
use Rattle.std.specs.List.{AllByRecursion, filter}
use Rattle.ob_tree.specs.declared.names.QName.{QName}
use Rattle.ob_tree.specs.declared.decl.Module.{Module as Tree}
use Rattle.ob_types.specs.declared.desc.Desc.{Desc}
use Rattle.ob_types.specs.declared.desc.RecordDesc.{RecordDesc}
use Rattle.ob_types.specs.declared.desc.Method.{Method}
use Rattle.ob_types.specs.declared.typed.TypedType.{TypedType}
use Rattle.ob_rules.specs.Judged.{no_notes}
use Rattle.ob_rules.specs.Shapes.{Map, Member, AField, AMethod, member}
use Rattle.ob_rules.specs.Names.{Around, map_of, is_out}
use Rattle.ob_rules.specs.Types.{nothing}
use Rattle.ob_rules.specs.Headings.{BoundAs, Head, Binding, same_kind, introduced_sound, new_method, with_method, changed_if, change_type, redefined, bind_method, bind_by, bind_one, bind_all, of_record, bind_records, counted, reversed, bindings, differ}
use Rattle.ob_rules.specs.Declarations.{binding_at}
use Rattle.law_names_distinct.specs.Distinct.{AreDistinct}
use Rattle.law_spelling.specs.Raw.{decl_named}
use Rattle.law_typing_env.specs.Views.{SaysNoMore, IsEarly}
use Rattle.law_body_context.proofs.Lists.{all_of}
use Rattle.law_methods_introduced.proofs.Binding.{desc_in}
use Rattle.law_methods_introduced.proofs.Blocks as outward
use Rattle.law_methods_introduced.proofs.Families as families
use Rattle.law_methods_bound.proofs.Early.{early_self, records_back}
use Rattle.law_methods_bound.proofs.Modules.{M, whole, hs, heads, B, level}
use Rattle.law_methods_bound.proofs.Introduced.{found_one, one_found}

-- ---- types differ in name while procedures are bound to them

abbrev Differ : List TypedType → Type 0
Differ ts = AreDistinct (λ (t : TypedType). t.name) ts

name_kept : (b : Bool) (f : RecordDesc → RecordDesc) (t : TypedType) → (changed_if b f t).name ≡ t.name
name_kept true f t = refl
name_kept false f t = refl

fresh_kept : (y x : List ℕ) (f : RecordDesc → RecordDesc) (ts : List TypedType) → AllByRecursion (λ (t : TypedType). t.name ≢ y) ts → AllByRecursion (λ (t : TypedType). t.name ≢ y) (change_type x f ts)
fresh_kept y x f [] h = tt
fresh_kept y x f (t ∷ ts) h = ((λ e. h.0 (sym (name_kept (bytes_eq t.name x) f t) ∙ e)), fresh_kept y x f ts h.1)

differ_kept : (x : List ℕ) (f : RecordDesc → RecordDesc) (ts : List TypedType) → Differ ts → Differ (change_type x f ts)
differ_kept x f [] d = tt
differ_kept x f (t ∷ ts) d = (
  subst (λ y. AllByRecursion (λ (s : TypedType). s.name ≢ y) (change_type x f ts)) (sym (name_kept (bytes_eq t.name x) f t)) (fresh_kept t.name x f ts d.0),
  differ_kept x f ts d.1,
)

module _ (u : Around) where
  redefined_differ : (c : Bool) (s : Binding) (h : Head) (b : BoundAs) → Differ s.own → Differ (redefined c s h b).own
  redefined_differ true s h b d = d
  redefined_differ false s h b d = d

  method_differ : (c : Bool) (map : Map) (s : Binding) (h : Head) (b : BoundAs) (owner : QName) (m : Method) → Differ s.own → Differ (bind_method c u map s h b owner m).own
  method_differ true map s h b owner m d = d
  method_differ false map s h b owner m d = redefined_differ (not (same_kind m.receiver b.receiver) || differ map h m (introduced_sound u s.bound owner m.name)) s h b d

  by_differ : (map : Map) (s : Binding) (h : Head) (b : BoundAs) (o : Option Member) → Differ s.own → Differ (bind_by u map s h b o).own
  by_differ map s h b None d = differ_kept b.owner.object (λ r. with_method r (new_method h b)) s.own d
  by_differ map s h b (Some (AField owner f)) d = d
  by_differ map s h b (Some (AMethod owner m)) d = method_differ (bytes_eq owner.object b.owner.object && bytes_eq owner.«module» u.unit) map s h b owner m d

  one_differ : (s : Binding) (h : Head) (o : Option BoundAs) → Differ s.own → Differ (bind_one u s h o).own
  one_differ s h None d = d
  one_differ s h (Some b) d = let map = map_of (record u { own = s.own }) in by_differ map s h b (member map b.owner h.name) d

  all_differ : (s : Binding) (cs : List Head) → Differ s.own → Differ (bind_all u s cs).own
  all_differ s [] d = d
  all_differ s (h ∷ cs) d = all_differ (bind_one u s h h.bound) cs (one_differ s h h.bound d)

  records_differ : (cs : List Head) (s : Binding) (ts : List TypedType) → Differ s.own → Differ (bind_records u cs s ts).own
  records_differ cs s [] d = d
  records_differ cs s (t ∷ ts) d = let some = filter (of_record t.name) cs in records_differ cs (bind_all u s some) ts (all_differ s some d)

-- ---- a module that breaks no rule

module _ (shown : QName → Option Desc) (tree : Tree) (out : is_out (M shown tree).name ≡ false) (named : AllByRecursion (λ d. decl_named d ≡ true) tree.decls) (quiet : (whole shown tree out).notes.broken ≡ []) (differ : AreDistinct (λ t. t.name) (M shown tree).types) where
  abbrev U : Around
  U = (hs shown tree out).around

  abbrev all : List Head
  all = heads shown tree out

  abbrev types : List TypedType
  types = (M shown tree).types

  abbrev last : List TypedType
  last = (bindings U all).own

  own_differ : Differ U.own
  own_differ = outward.own_differ shown tree named quiet (outward.undescribed (whole shown tree out).contents.bound (whole shown tree out).contents.types differ)

  last_differ : Differ last
  last_differ = records_differ U (counted all) (record { own = U.own; bound = []; notes = no_notes }) (reversed U.own) own_differ

  final : B shown tree out ≡ bindings U all
  final = ap (λ p. binding_at (nothing p) U all) (level shown tree out)

  -- it is a type of the module, with all that is bound to it
  early_of : (t : TypedType) → IsEarly last t → IsEarly types t
  early_of t h =
      let here : desc_in types h.s.name ≡ Some h.s.desc = families.own_there shown tree named quiet h.s.name h.s.desc (ap (λ (z : Binding). desc_in z.own h.s.name) final ∙ one_found last last_differ h.s h.there) in
      let f = found_one types h.s.name h.s.desc here in
      record { s = f.0; there = f.1.0; name = f.1.1.0 ∙ h.name; says = subst (λ d. SaysNoMore t.desc d) (sym f.1.1.1) h.says }

  -- what is early when all is bound is early in the module
  pub are_early : (own : List TypedType) → AllByRecursion (IsEarly last) own → AllByRecursion (IsEarly types) own
  are_early own h = all_of (IsEarly last) (IsEarly types) own early_of h

  pub headings_early : AllByRecursion (IsEarly types) U.own
  headings_early = are_early U.own (records_back U last (counted all) (reversed U.own) (record { own = U.own; bound = []; notes = no_notes }) (early_self last))
