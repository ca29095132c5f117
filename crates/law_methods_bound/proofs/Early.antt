-- The types of a module before procedures are bound to them say no more than in the end.
use Rattle.std.proofs.Common.{inl, inr, ℕ, Bool, true, false, List, [], ◌∷◌, Option, Some, None, refl}
use Rattle.std.specs.Prelude.{◌&&◌, not, bytes_eq, ◌||◌}
use Rattle.std.specs.List.{AllByRecursion, filter}
use Rattle.ob_tree.specs.declared.names.QName.{QName}
use Rattle.ob_types.specs.declared.desc.Desc.{Desc}
use Rattle.ob_types.specs.declared.desc.Desc.TheVariants as desc
use Rattle.ob_types.specs.declared.desc.Method.{Method}
use Rattle.ob_types.specs.declared.typed.TypedType.{TypedType}
use Rattle.ob_rules.specs.Shapes.{Map, Member, AField, AMethod, member}
use Rattle.ob_rules.specs.Names.{Around, map_of}
use Rattle.ob_rules.specs.Headings.{BoundAs, Head, Binding, same_kind, introduced_sound, new_method, with_method, change_desc, changed_if, change_type, redefined, bind_method, bind_by, bind_one, bind_all, of_record, bind_records, differ}
use Rattle.law_typing_forms.specs.Said.{IsOneOf, IsBoundAmong}
use Rattle.law_typing_env.specs.Views.{SaysNoMore, IsEarly}
use Rattle.law_typing_env.proofs.Shown.{part_itself}
use Rattle.law_lists.proofs.Lists.{all_front}

says_less : (d e : Desc) (m : Method) → SaysNoMore (change_desc (λ r. with_method r m) d) e → SaysNoMore d e
says_less (desc.Record r) e m h = (h.0, (h.1.0, record { base = h.1.1.base; fields = h.1.1.fields; methods = all_front (λ k. IsBoundAmong h.0.methods k) r.methods (m ∷ []) h.1.1.methods }))
says_less (desc.Const v) e m h = h
says_less (desc.Var k t) e m h = h
says_less (desc.Proc s) e m h = h
says_less (desc.Alias k t) e m h = h
says_less (desc.Array k n t) e m h = h
says_less (desc.OpenArray k t) e m h = h
says_less (desc.Pointer k t) e m h = h
says_less (desc.ProcType k s) e m h = h

says_self : (d : Desc) → SaysNoMore d d
says_self (desc.Record r) = (r, (refl, part_itself r))
says_self (desc.Const v) = refl
says_self (desc.Var k t) = refl
says_self (desc.Proc s) = refl
says_self (desc.Alias k t) = refl
says_self (desc.Array k n t) = refl
says_self (desc.OpenArray k t) = refl
says_self (desc.Pointer k t) = refl
says_self (desc.ProcType k s) = refl

all_early : (last ts : List TypedType) → ((t : TypedType) → IsOneOf ts t → IsOneOf last t) → AllByRecursion (IsEarly last) ts
all_early last [] i = tt
all_early last (t ∷ ts) i = (record { s = t; there = i t (inl refl); name = refl; says = says_self t.desc }, all_early last ts (λ x j. i x (inr j)))

pub early_self : (last : List TypedType) → AllByRecursion (IsEarly last) last
early_self last = all_early last last (λ t i. i)

module _ (u : Around) (last : List TypedType) where
  abbrev pub Later : List TypedType → Type 0
  Later ts = AllByRecursion (IsEarly last) ts

  type_back : (b : Bool) (m : Method) (t : TypedType) → IsEarly last (changed_if b (λ r. with_method r m) t) → IsEarly last t
  type_back true m t h = record { s = h.s; there = h.there; name = h.name; says = says_less t.desc h.s.desc m h.says }
  type_back false m t h = h

  types_back : (x : List ℕ) (m : Method) (ts : List TypedType) → Later (change_type x (λ r. with_method r m) ts) → Later ts
  types_back x m [] h = tt
  types_back x m (t ∷ ts) h = (type_back (bytes_eq t.name x) m t h.0, types_back x m ts h.1)

  redefined_back : (c : Bool) (st : Binding) (h : Head) (b : BoundAs) → Later (redefined c st h b).own → Later st.own
  redefined_back true st h b k = k
  redefined_back false st h b k = k

  method_back : (c : Bool) (map : Map) (st : Binding) (h : Head) (b : BoundAs) (owner : QName) (m : Method) → Later (bind_method c u map st h b owner m).own → Later st.own
  method_back true map st h b owner m k = k
  method_back false map st h b owner m k = redefined_back (not (same_kind m.receiver b.receiver) || differ map h m (introduced_sound u st.bound owner m.name)) st h b k

  by_back : (map : Map) (st : Binding) (h : Head) (b : BoundAs) (o : Option Member) → Later (bind_by u map st h b o).own → Later st.own
  by_back map st h b None k = types_back b.owner.object (new_method h b) st.own k
  by_back map st h b (Some (AField owner f)) k = k
  by_back map st h b (Some (AMethod owner m)) k = method_back (bytes_eq owner.object b.owner.object && bytes_eq owner.module u.unit) map st h b owner m k

  pub one_back : (st : Binding) (h : Head) (o : Option BoundAs) → Later (bind_one u st h o).own → Later st.own
  one_back st h None k = k
  one_back st h (Some b) k = by_back (map_of (record u { own = st.own })) st h b (member (map_of (record u { own = st.own })) b.owner h.name) k

  pub all_back : (hs : List Head) (st : Binding) → Later (bind_all u st hs).own → Later st.own
  all_back [] st k = k
  all_back (h ∷ hs) st k = one_back st h h.bound (all_back hs (bind_one u st h h.bound) k)

  pub records_back : (hs : List Head) (ts : List TypedType) (st : Binding) → Later (bind_records u hs st ts).own → Later st.own
  records_back hs [] st k = k
  records_back hs (t ∷ ts) st k = all_back (filter (of_record t.name) hs) st (records_back hs ts (bind_all u st (filter (of_record t.name) hs)) k)
