-- A type that is written stands among those that it makes, and each that it makes is described.
use Rattle.std.proofs.Common.{◌≡◌, refl, sym, subst, ℕ, zero, suc, ◌≤◌, Bool, true, false, List, [], ◌∷◌, ◌++◌, Option, Some, None, inl, arith}
use Rattle.std.specs.Prelude.{is_none, is_some, pos, negsuc}
use Rattle.std.specs.List.{AllByRecursion}
use Rattle.ob_tree.specs.declared.pos.Pos.{Pos}
use Rattle.ob_tree.specs.declared.names.QName.{QName}
use Rattle.ob_tree.specs.declared.ident.Ident.{Ident}
use Rattle.ob_tree.specs.declared.ident.IdentDef.{IdentDef}
use Rattle.ob_tree.specs.declared.ident.Mark.{Mark}
use Rattle.ob_tree.specs.declared.ident.Mark.TheVariants as mark
use Rattle.ob_tree.specs.declared.ident.Qualident.{Qualident}
use Rattle.ob_types.specs.declared.types.TypeRef.{TypeRef}
use Rattle.ob_types.specs.declared.types.TypeRef.TheVariants as ref
use Rattle.ob_types.specs.declared.value.Value.{Value}
use Rattle.ob_types.specs.declared.value.Value.TheVariants as literal
use Rattle.ob_types.specs.declared.desc.Desc.{Desc}
use Rattle.ob_types.specs.declared.desc.Desc.TheVariants as desc
use Rattle.ob_types.specs.declared.typed.TypedType.{TypedType}
use Rattle.ob_types.specs.Maps.{is_type}
use Rattle.ob_rules.specs.declared.broken.Rule.TheVariants as rule
use Rattle.ob_rules.specs.Judged.{Judged, sound, both, ◌▷◌, each_sound}
use Rattle.ob_rules.specs.Shapes.{is_structured, is_pointer}
use Rattle.ob_rules.specs.Names.{Around, map_of, type_named, is_out}
use Rattle.ob_rules.specs.Phrases.{Phrase}
use Rattle.ob_rules.specs.Expressions.{constant_value}
use Rattle.ob_rules.specs.Types.{Typing, Written, typed_as, with_types, base_name, element_name, field_name, named_typing, length_of, array_length, fixed_array, array, first_of, fields_of, WrittenFields, first_name, names_behind, Fields, with_fields, fields_joined, field_lists, record_desc, record_with, pointer_to, base_judged, pointer_base, pointer_by}
use Rattle.law_methods_described.proofs.Nodes.{Has, then_has, both_have, first_has, second_has, also_has, unless_has}
use Rattle.law_body_context.specs.Knows.{Stands, LengthIs, IsDescribed, Knows}
use Rattle.law_body_context.specs.Order.{IsOver}
use Rattle.law_body_context.proofs.Standing.{own_stands}
use Rattle.law_body_context.proofs.Named.{type_named_stands}
use Rattle.law_lists.proofs.Lists.{all_both}

module _ (IsConstant : Value → Type 0) (unit : List ℕ) (shown : QName → Option Desc) (out : is_out unit ≡ false) where
  abbrev pub AreDescribed : List TypedType → Type 0
  AreDescribed ts = AllByRecursion (IsDescribed IsConstant) ts

  abbrev pub K : Around → Type 0
  K u = Knows IsConstant unit shown u

  -- what it makes is described, and it stands among that and what stands already
  pub record TypingIs (own : List TypedType) (t : Typing) : Type 0 where
    pub made : AreDescribed t.made
    pub of : Stands unit shown (t.made ++ own) t.of

  -- over the types that are known by names
  abbrev pub AreOver : List TypedType → List TypedType → Type 0
  AreOver start ts = AllByRecursion (IsOver (Stands unit shown start)) ts

  pub record TypingOver (start : List TypedType) (named : Bool) (t : Typing) : Type 0 where
    pub made : AreOver start t.made
    -- a name stands for a type that is known
    pub of : named ≡ true → Stands unit shown start t.of

  -- an expression whose value is a constant, where constants are
  abbrev pub ConstantPhrase : Phrase → Type 0
  ConstantPhrase x = (u : Around) → K u → Has IsConstant (constant_value u x)

  abbrev pub AreConstant : List Phrase → Type 0
  AreConstant xs = AllByRecursion ConstantPhrase xs

  -- a written type, whatever stands around
  abbrev pub IsGood : Written → Type 0
  IsGood w = (u : Around) → K u → (name : List ℕ) (m : Mark) (open_ok : Bool) → Has (TypingIs u.own) (w.typing u name m open_ok)

  -- the types that are known by names are among these
  abbrev pub KnownOver : List TypedType → Around → Type 0
  KnownOver start u = K (record u { own = start })

  -- the types that it makes are over those that are known
  abbrev pub IsWellOver : Written → Type 0
  IsWellOver w = (start : List TypedType) (u : Around) → KnownOver start u → (name : List ℕ) (m : Mark) (open_ok : Bool) → Has (TypingOver start (is_some w.name)) (w.typing u name m open_ok)

  abbrev pub AreWellOver : List WrittenFields → Type 0
  AreWellOver ls = AllByRecursion (λ l. IsWellOver l.node) ls

  abbrev pub AreGoodFields : List WrittenFields → Type 0
  AreGoodFields ls = AllByRecursion (λ l. IsGood l.node) ls

  -- one that is made with a name
  pub typed_is : (u : Around) → K u → (name : List ℕ) (d : Desc) (more : List TypedType) → is_type d ≡ true → LengthIs IsConstant d → AreDescribed more → TypingIs u.own (typed_as u name d more)
  typed_is u k name d more h l g =
      let t : TypedType = record { name = name; desc = d } in
      record {
        made = (record { type = h; length = l }, g);
        of = subst (λ n. Stands unit shown ((t ∷ more) ++ u.own) (ref.Named (record { «module» = n; object = name }))) (sym k.unit_is) (own_stands unit shown out ((t ∷ more) ++ u.own) name (t, (inl refl, refl)));
      }

  -- NAMES AND ARRAYS

  pub name_good : (q : Qualident) (u : Around) → K u → (open_ok : Bool) → Has (TypingIs u.own) (type_named u q ▷ named_typing u (first_of q) open_ok)
  name_good q u k open_ok =
      then_has (Stands unit shown u.own) (TypingIs u.own) (type_named u q) (named_typing u (first_of q) open_ok) (type_named_stands IsConstant unit shown u k q)
      (λ t h. unless_has (TypingIs u.own) _ rule.MisplacedOpenArray (first_of q) _ (record { made = tt; of = h }))

  some_length : (n : ℕ) → 1 ≤ suc n
  some_length n = omega arith

  length_is : (at : Pos) (v : Value) → IsConstant v → Has (λ n. IsConstant (literal.Int (pos n)) × (1 ≤ n)) (length_of at v)
  length_is at (literal.Int (pos zero)) h = tt
  length_is at (literal.Int (pos (suc n))) h = (h, some_length n)
  length_is at (literal.Int (negsuc n)) h = tt
  length_is at (literal.Bool b) h = tt
  length_is at (literal.Char c) h = tt
  length_is at (literal.Set n) h = tt
  length_is at (literal.Str text) h = tt
  length_is at literal.Nil h = tt

  array_length_is : (u : Around) → K u → (x : Phrase) → ConstantPhrase x → Has (λ n. IsConstant (literal.Int (pos n)) × (1 ≤ n)) (array_length u x)
  array_length_is u k x h = then_has IsConstant (λ n. IsConstant (literal.Int (pos n)) × (1 ≤ n)) (constant_value u x) (length_of x.start) (h u k) (λ v g. length_is x.start v g)

  fixed_good : (ls : List Phrase) → AreConstant ls → (element : Written) → IsGood element → (u : Around) → K u → (name : List ℕ) (m : Mark) → Has (TypingIs u.own) (fixed_array u name m ls element)
  fixed_good [] c element g u k name m = g u k name m false
  fixed_good (l ∷ ls) c element g u k name m =
      then_has (λ p. (IsConstant (literal.Int (pos p.0)) × (1 ≤ p.0)) × TypingIs u.own p.1) (TypingIs u.own) (both (array_length u l) (fixed_array u (element_name name) mark.Hidden ls element)) (λ p. sound (typed_as u name (desc.Array m p.0 p.1.of) p.1.made))
      (both_have (λ n. IsConstant (literal.Int (pos n)) × (1 ≤ n)) (TypingIs u.own) (array_length u l) (fixed_array u (element_name name) mark.Hidden ls element) (array_length_is u k l c.0) (fixed_good ls c.1 element g u k (element_name name) mark.Hidden))
      (λ p h. typed_is u k name (desc.Array m p.0 p.1.of) p.1.made refl h.0 h.1.made)

  pub array_good : (ls : List Phrase) → AreConstant ls → (at : Pos) (element : Written) → IsGood element → (u : Around) → K u → (name : List ℕ) (m : Mark) (open_ok : Bool) → Has (TypingIs u.own) (array u name m at open_ok ls element)
  array_good [] c at element g u k name m open_ok =
      also_has (TypingIs u.own) _ rule.MisplacedOpenArray at _
      (then_has (TypingIs u.own) (TypingIs u.own) (element.typing u (element_name name) mark.Hidden element.open_array) (λ t. sound (typed_as u name (desc.OpenArray m t.of) t.made)) (g u k (element_name name) mark.Hidden element.open_array) (λ t h. typed_is u k name (desc.OpenArray m t.of) t.made refl tt h.made))
  array_good (l ∷ ls) c at element g u k name m open_ok = fixed_good (l ∷ ls) c element g u k name m

  -- RECORDS

  fields_good : (u : Around) (base : Option (Option TypeRef)) (before : List (List ℕ)) (ds : List IdentDef) (t : Judged Typing) → Has (TypingIs u.own) t → Has (λ (f : Fields). AreDescribed f.made) (with_fields u base before ds t)
  fields_good u base before ds t g =
      then_has (λ p. TypingIs u.own p.0 × Unit {0}) (λ (f : Fields). AreDescribed f.made) (both t (each_sound (fields_of u base before ds t.node))) (λ p. sound (record { fields = p.1; made = p.0.made }))
      (first_has (TypingIs u.own) t (each_sound (fields_of u base before ds t.node)) g) (λ p h. h.0.made)

  lists_good : (ls : List WrittenFields) → AreGoodFields ls → (u : Around) → K u → (name : List ℕ) (base : Option (Option TypeRef)) (before : List (List ℕ)) → Has (λ (f : Fields). AreDescribed f.made) (field_lists u name base before ls)
  lists_good [] g u k name base before = tt
  lists_good (l ∷ ls) g u k name base before =
      let a = with_fields u base before l.names (l.node.typing u (field_name name (first_name l.names)) mark.Hidden false) in
      let b = field_lists u name base (names_behind l.names before) ls in
      then_has (λ (p : Fields × Fields). AreDescribed p.0.made × AreDescribed p.1.made) (λ (f : Fields). AreDescribed f.made) (both a b) (λ p. sound (fields_joined p.0 p.1))
      (both_have (λ (f : Fields). AreDescribed f.made) (λ (f : Fields). AreDescribed f.made) a b (fields_good u base before l.names (l.node.typing u (field_name name (first_name l.names)) mark.Hidden false) (g.0 u k (field_name name (first_name l.names)) mark.Hidden false)) (lists_good ls g.1 u k name base (names_behind l.names before)))
      (λ p h. all_both (IsDescribed IsConstant) p.0.made p.1.made h.0 h.1)

  pub record_good : (u : Around) → K u → (name : List ℕ) (m : Mark) (lists : List WrittenFields) → AreGoodFields lists → (base : Judged (Option TypeRef)) → Has (TypingIs u.own) (record_with u name m lists base)
  record_good u k name m lists g base =
      then_has (λ (p : Option TypeRef × Fields). Unit {0} × AreDescribed p.1.made) (TypingIs u.own) (both base (field_lists u name base.node [] lists)) (λ p. sound (typed_as u name (record_desc m p.0 p.1.fields) p.1.made))
      (second_has (λ (f : Fields). AreDescribed f.made) base (field_lists u name base.node [] lists) (lists_good lists g u k name base.node []))
      (λ p h. typed_is u k name (record_desc m p.0 p.1.fields) p.1.made refl tt h.1)

  -- POINTERS

  base_good : (own : List TypedType) (name : List ℕ) (inline : Bool) (at : Pos) (s p : Bool) (t : Typing) → TypingIs own t → Has (TypingIs own) (base_judged name inline at s p t)
  base_good own name inline at true p t h = h
  base_good own name inline at false true t h = h
  base_good own name inline at false false t h = tt

  pub pointer_good : (u : Around) → K u → (name : List ℕ) (m : Mark) (base : Written) → IsGood base → (o : Option Ident) → Has (TypingIs u.own) (pointer_by u name m base o)
  pointer_good u k name m base g (Some x) = typed_is u k name _ [] refl tt tt
  pointer_good u k name m base g None =
      then_has (TypingIs u.own) (TypingIs u.own) (base.typing u (base_name name) mark.Hidden true ▷ pointer_base u name (is_none base.name) base.start) (λ t. sound (pointer_to u name m t))
      (then_has (TypingIs u.own) (TypingIs u.own) (base.typing u (base_name name) mark.Hidden true) (pointer_base u name (is_none base.name) base.start) (g u k (base_name name) mark.Hidden true)
      (λ t h. base_good u.own name (is_none base.name) base.start (is_structured (map_of (with_types u t.made)) t.of) (is_pointer (map_of (with_types u t.made)) t.of) t h))
      (λ t h. typed_is u k name (desc.Pointer m t.of) t.made refl tt h.made)
