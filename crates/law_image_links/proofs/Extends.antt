-- A record type extends each of its bases: it has its fields before others.
use Rattle.std.proofs.Common.{◌≡◌, List, [], ◌∷◌, ◌++◌, refl, sym, ap, ◌∙◌, subst, append_assoc, Option, Some, None}
use Rattle.std.specs.Prelude.{Bool, true, false, ◌||◌, IfSome}
use Rattle.ob_tree.specs.declared.names.QName.{QName}
use Rattle.ob_types.specs.declared.types.TypeRef.{TypeRef}
use Rattle.ob_obj.specs.declared.file.ObjFile.{ObjFile}
use Rattle.ob_meaning.specs.Values.{same_name, Program, RecordForm, Fields, NoField, AField, joined, line_of, base_line, base_fields, fields_of, form_in, record_in, is_among}
use Rattle.law_simulation_relation.specs.Relation.{Sub, extended}
use Rattle.law_simulation_relation.specs.Setting.{Setting}
use Rattle.law_simulation_relation.proofs.Names.{name_true}
use Rattle.law_image_links.specs.Files.{Build, AreFiles, AllKeepRules}
use Rattle.law_image_links.specs.Records.{IsBase, AllDeclared}
use Rattle.law_image_links.proofs.Records.{Known, known, no_items, first_same, behind_first, line_is}

joined_assoc : (fs gs hs : Fields) → joined (joined fs gs) hs ≡ joined fs (joined gs hs)
joined_assoc NoField gs hs = refl
joined_assoc (AField o x t fs) gs hs = ap (AField o x t) (joined_assoc fs gs hs)

-- a record type with others before a type and its bases, and more fields behind its own
record Above (program : Program) (q b : QName) : Type 0 where
  pub more : List QName
  pub others : Fields
  pub line : List QName
  pub fields : Fields
  pub is : record_in program q ≡ RecordForm (more ++ (b ∷ line)) (joined fields others)
  pub base : record_in program b ≡ RecordForm (b ∷ line) fields

sub_of : (program : Program) (q b : QName) → Above program q b → Sub (record_in program q) (record_in program b)
sub_of program q b a = subst (λ t. Sub t (record_in program b)) (sym a.is) (subst (λ t. Sub (RecordForm (a.more ++ (b ∷ a.line)) (joined a.fields a.others)) t) (sym a.base) (extended a.more a.others))

above_two : (program : Program) (q p b : QName) → Above program q p → Above program p b → Above program q b
above_two program q p b x y =
    let both = sym x.base ∙ y.is in
    let line : p ∷ x.line ≡ y.more ++ (b ∷ y.line) = ap line_of both in
    let fields : x.fields ≡ joined y.fields y.others = ap fields_of both in
    record {
      more = x.more ++ y.more;
      others = joined y.others x.others;
      line = y.line;
      fields = y.fields;
      is = x.is ∙ ap (λ l. RecordForm (x.more ++ l) (joined x.fields x.others)) line ∙ ap (λ fs. RecordForm (x.more ++ (y.more ++ (b ∷ y.line))) (joined fs x.others)) fields ∙ ap (λ l. RecordForm l (joined (joined y.fields y.others) x.others)) (sym (append_assoc x.more y.more (b ∷ y.line))) ∙ ap (RecordForm ((x.more ++ y.more) ++ (b ∷ y.line))) (joined_assoc y.fields y.others x.others);
      base = y.base;
    }

module _ (c : Setting) (builds : List Build) (more : List ObjFile) (files : AreFiles c builds more) (rules : AllKeepRules c builds) (declared : AllDeclared c.program builds) where
  abbrev K : QName → Type 0
  K q = Known c builds more files rules declared q

  -- its base alone
  above_base : (q : QName) (k : K q) (t : TypeRef) (i : IsBase c.program t) → k.says.base ≡ Some t → Above c.program q i.0
  above_base q k t i e =
      let form = i.2 ∙ i.1.1 in
      let fs = fields_of (record_in c.program i.0) in
      record {
        more = q ∷ [];
        others = k.is.own;
        line = i.1.0;
        fields = fs;
        is = k.is.is ∙ ap (λ o. RecordForm (q ∷ base_line (form_in c.program) o) (joined (base_fields (form_in c.program) o) k.is.own)) e ∙ ap (λ u. RecordForm (q ∷ line_of u) (joined (fields_of u) k.is.own)) form;
        base = i.1.1;
      }

  abbrev IsLine : List QName → QName → Type 0
  IsLine line q = record_in c.program q ≡ RecordForm (q ∷ line) (fields_of (record_in c.program q))

  above_on : (q : QName) (k : K q) (p : QName) (line : List QName) (b : QName) (o : Option TypeRef) → k.says.base ≡ o → IfSome o (λ t. IsBase c.program t) → p ∷ line ≡ base_line (form_in c.program) o → is_among (p ∷ line) b ≡ true → ((r : QName) → IsLine line r → is_among line b ≡ true → Above c.program r b) → Above c.program q b
  above_on q k p line b None e i l a up = absurd (no_items p line (sym l))
  above_on q k p line b (Some t) e i l a up =
      let whole : p ∷ line ≡ i.0 ∷ i.1.0 = l ∙ ap line_of i.2 ∙ ap line_of i.1.1 in
      let same : p ≡ i.0 = first_same p i.0 line i.1.0 whole in
      let rest : line ≡ i.1.0 = ap behind_first whole in
      let is = i.1.1 ∙ ap (λ x. RecordForm (i.0 ∷ x) (fields_of (record_in c.program i.0))) (sym rest) in
      go (same_name b p) refl a (above_base q k t i e) same (up i.0 is)
    where
      go : (x : Bool) → same_name b p ≡ x → (x || is_among line b) ≡ true → Above c.program q i.0 → p ≡ i.0 → (is_among line b ≡ true → Above c.program i.0 b) → Above c.program q b
      go true f a one same up = subst (Above c.program q) (sym same ∙ sym (name_true b p f)) one
      go false f a one same up = above_two c.program q i.0 b one (up a)

  above : (line : List QName) (q : QName) → IsLine line q → (b : QName) → is_among line b ≡ true → Above c.program q b
  above [] q e b a = absurd (cc)
  above (p ∷ line) q e b a = let k = known c builds more files rules declared q (p ∷ line) e in above_on q k p line b k.says.base refl k.is.base (line_is c builds more files rules declared q k (p ∷ line) e) a (λ r f g. above line r f b g)

  pub extends : (q : QName) (line : List QName) → IsLine line q → (b : QName) → is_among line b ≡ true → Sub (record_in c.program q) (record_in c.program b)
  extends q line e b a = sub_of c.program q b (above line q e b a)
