-- The links of an object file are those that its code names.
use Rattle.std.proofs.Common.{◌≡◌, Bool, true, false, List, [], ◌∷◌, Option, Some, None, refl}
use Rattle.std.specs.Prelude.{if◌then◌else◌}
use Rattle.std.specs.List.{AllByRecursion}
use Rattle.ob_tree.specs.declared.names.QName.{QName}
use Rattle.ob_types.specs.declared.desc.Desc.{Desc}
use Rattle.ob_types.specs.declared.desc.Desc.TheVariants as desc
use Rattle.ob_types.specs.declared.typed.TypedType.{TypedType}
use Rattle.ob_scheme.specs.Lines.{Operand, Number, StringHere, OtherVariable, OtherProcedure, OtherType, Line}
use Rattle.ob_scheme.specs.Numbers.{Named, nothing_named, same_link, same_type, with_one, link_to, with_operand, with_line, with_lines}
use Rattle.ob_scheme.specs.Context.{is_own}
use Rattle.ob_scheme.specs.Object.{own, own_words, base_type, with_base, with_record, with_bases, all_named}
use Rattle.ob_scheme.specs.Procedures.{module_code}
use Rattle.ob_compile_model.specs.Compiling.{Compiled}
use Rattle.ob_link.specs.Files.{linked}
use Rattle.law_load_plan.specs.Compiled.{Text, is_variable, is_procedure, is_record, IsUsedAs}
use Rattle.law_links.specs.Linked.{types_of, IsCounted, IsOperandCounted, IsLineCounted, IsBaseCounted, IsTypeCounted, LinksFollow}
use Rattle.law_links.proofs.Uses.{used}
use Rattle.law_lists.proofs.Lists.{all_from}

one_if : {A : Type 0} (P : A → Type 0) (b : Bool) (y : A) (ys more : List A) → P y → AllByRecursion P ys → AllByRecursion P more → AllByRecursion P (if b then y ∷ ys else y ∷ more)
one_if P true y ys more h k l = (h, k)
one_if P false y ys more h k l = (h, l)

pub with_one_all : {A : Type 0} (P : A → Type 0) (same : A → A → Bool) (xs : List A) (x : A) → AllByRecursion P xs → P x → AllByRecursion P (with_one same xs x)
with_one_all P same [] x h k = (k, tt)
with_one_all P same (y ∷ ys) x h k = one_if P (same x y) y ys (with_one same ys x) h.0 h.1 (with_one_all P same ys x h.1 k)

module _ (c : Compiled Text) where
  record AreCounted (n : Named) : Type 0 where
    variables : AllByRecursion (λ l. IsCounted is_variable c (linked l)) n.variables
    procedures : AllByRecursion (λ l. IsCounted is_procedure c (linked l)) n.procedures
    types : AllByRecursion (IsCounted is_record c) n.types

  one_more : (n : Named) → AreCounted n → (o : Operand) → IsOperandCounted c o → AreCounted (with_operand n o)
  one_more n a (Number z) h = a
  one_more n a (StringHere text words) h = record { variables = a.variables; procedures = a.procedures; types = a.types }
  one_more n a (OtherVariable m x) h = record { variables = with_one_all (λ l. IsCounted is_variable c (linked l)) same_link n.variables (link_to m x) a.variables h; procedures = a.procedures; types = a.types }
  one_more n a (OtherProcedure m x) h = record { variables = a.variables; procedures = with_one_all (λ l. IsCounted is_procedure c (linked l)) same_link n.procedures (link_to m x) a.procedures h; types = a.types }
  one_more n a (OtherType k q) h = record { variables = a.variables; procedures = a.procedures; types = with_one_all (IsCounted is_record c) same_type n.types q a.types h }

  all_counted : (ls : List Line) → AllByRecursion (IsLineCounted c) ls → (n : Named) → AreCounted n → AreCounted (with_lines n ls)
  all_counted [] h n a = a
  all_counted (l ∷ ls) h n a = all_counted ls h.1 (with_line n l) (one_more (with_operand n l.a) (one_more n a l.a h.0.0) l.b h.0.1)

  base_if : (b : Bool) (links : List QName) (q : QName) → AllByRecursion (IsCounted is_record c) links → (b ≡ false → IsCounted is_record c q) → AllByRecursion (IsCounted is_record c) (if b then links else with_one same_type links q)
  base_if true links q h k = h
  base_if false links q h k = with_one_all (IsCounted is_record c) same_type links q h (k refl)

  base_more : (links : List QName) (o : Option QName) → AllByRecursion (IsCounted is_record c) links → IsBaseCounted c o → AllByRecursion (IsCounted is_record c) (with_base (types_of c) c.tree links o)
  base_more links None h k = h
  base_more links (Some q) h k = base_if (is_own (own (types_of c) c.tree) q.«module») links q h k

  record_more : (links : List QName) (d : Desc) → AllByRecursion (IsCounted is_record c) links → IsTypeCounted c d → AllByRecursion (IsCounted is_record c) (with_record (types_of c) c.tree links d)
  record_more links (desc.Record r) h k = base_more links (base_type (types_of c) c.tree r.base) h k
  record_more links (desc.Const v) h k = h
  record_more links (desc.Var m t) h k = h
  record_more links (desc.Proc s) h k = h
  record_more links (desc.Alias m t) h k = h
  record_more links (desc.Array m n t) h k = h
  record_more links (desc.OpenArray m t) h k = h
  record_more links (desc.Pointer m t) h k = h
  record_more links (desc.ProcType m s) h k = h

  bases_more : (ts : List TypedType) (links : List QName) → AllByRecursion (IsCounted is_record c) links → AllByRecursion (λ t. IsTypeCounted c t.desc) ts → AllByRecursion (IsCounted is_record c) (with_bases (types_of c) c.tree links ts)
  bases_more [] links h k = h
  bases_more (t ∷ ts) links h k = bases_more ts (with_record (types_of c) c.tree links t.desc) (record_more links t.desc h k.0) k.1

pub links_are_used : LinksFollow
links_are_used c made h =
    let n = all_named (types_of c) c.tree in
    let a : AreCounted c n = all_counted c (module_code (types_of c) c.tree) h.code (nothing_named (own_words (types_of c) c.tree)) (record { variables = tt; procedures = tt; types = tt }) in
    record {
      variables = all_from (λ l. IsCounted is_variable c (linked l)) (λ l. IsUsedAs is_variable c (linked l)) (λ l k. used is_variable c made (linked l) k) n.variables a.variables;
      procedures = all_from (λ l. IsCounted is_procedure c (linked l)) (λ l. IsUsedAs is_procedure c (linked l)) (λ l k. used is_procedure c made (linked l) k) n.procedures a.procedures;
      types = all_from (IsCounted is_record c) (IsUsedAs is_record c) (λ q k. used is_record c made q k) _ (bases_more c c.tree.types n.types a.types h.bases);
    }
