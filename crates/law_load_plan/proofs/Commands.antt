-- The commands of an object file are those of the module.
use Rattle.std.proofs.Common.{◌≡◌, ℕ, zero, suc, Bool, true, false, List, [], ◌∷◌, length, map, Option, Some, None, refl, sym, ap, subst, ◌∙◌, arith}
use Rattle.std.specs.Prelude.{if◌then◌else◌, bytes_eq, ◌&&◌, not, nat_eq, slice_get, is_none}
use Rattle.std.specs.List.{AllByRecursion, IsDistinct}
use Rattle.std.specs.Ordering.{is_eq}
use Rattle.std.specs.declared.cmp.Ordering.{Ordering}
use Rattle.std.specs.declared.cmp.Ordering.TheVariants.{Less, Equal, Greater}
use Rattle.std.proofs.lemmas.List.{length-map}
use Rattle.std.proofs.lemmas.Bool.{false≢true}
use Rattle.std.proofs.lemmas.Slice.Eq.{bytes_eq-Decides}
use Rattle.std.proofs.lemmas.Map.Text.{is_eq-slice_cmp}
use Rattle.ob_tree.specs.declared.names.QName.{QName}
use Rattle.ob_types.specs.declared.types.TypeRef.{TypeRef}
use Rattle.ob_types.specs.declared.desc.Desc.{Desc}
use Rattle.ob_types.specs.declared.typed.Binding.{Binding}
use Rattle.ob_types.specs.declared.typed.TypedParameter.{TypedParameter}
use Rattle.ob_types.specs.TypedSyntax.{Procedure, Module}
use Rattle.ob_format.specs.Names.{is_identifier}
use Rattle.ob_instr.specs.declared.procedure.Procedure.{Procedure as Row}
use Rattle.ob_obj.specs.declared.parts.Command.{Command}
use Rattle.ob_obj.specs.Grammar.{by_name}
use Rattle.ob_meaning.specs.Values.{procedure_named}
use Rattle.ob_meaning.specs.Commands.{is_hidden, is_none_of, is_command, when_command}
use Rattle.ob_layout.specs.Lists.{put_before, put_in, in_order}
use Rattle.ob_scheme.specs.Procedures.{has_result, body_of, all_procedures, end_procedure, row_of, rows_of, module_rows}
use Rattle.ob_scheme.specs.Object.{is_full, is_free, commands_among}
use Rattle.ob_link.specs.Plan.{is_there}
use Rattle.ob_link.specs.Files.{command_number, is_plain}
use Rattle.law_load_plan.specs.Compiled.{AreProceduresNamed}
use Rattle.law_load_plan.proofs.Orders.{all_in_order}

abbrev pub in_their_order : List Command → List Command
in_their_order cs = in_order (λ a b. by_name a.name b.name) cs

abbrev pub AreOthers : List ℕ → List Command → Type 0
AreOthers n cs = AllByRecursion (λ c. bytes_eq n c.name ≡ false) cs

-- ---- a command is found in the order as before

abbrev pub first_or : Bool → ℕ → Option ℕ → Option ℕ
first_or b k o = if b then Some k else o

no_two : (n a b : List ℕ) → bytes_eq a b ≡ false → bytes_eq n a ≡ true → bytes_eq n b ≡ true → ⊥
no_two n a b d e f = false≢true (sym d ∙ (bytes_eq-Decides a b).1 (sym ((bytes_eq-Decides n a).0 e) ∙ (bytes_eq-Decides n b).0 f))

either_first : (n a b : List ℕ) → bytes_eq a b ≡ false → (s t : Bool) → bytes_eq n a ≡ s → bytes_eq n b ≡ t → (j k : ℕ) (o : Option ℕ) → first_or t k (first_or s j o) ≡ first_or s j (first_or t k o)
either_first n a b d true true e f j k o = absurd (no_two n a b d e f)
either_first n a b d true false e f j k o = refl
either_first n a b d false true e f j k o = refl
either_first n a b d false false e f j k o = refl

equal_names : (a b : List ℕ) → by_name a b ≡ Equal → bytes_eq a b ≡ true
equal_names a b e = sym (is_eq-slice_cmp a b) ∙ ap is_eq e

put_found : (n : List ℕ) (x : Command) (ys : List Command) → AreOthers x.name ys → command_number n (put_in (λ a b. by_name a.name b.name) x ys) ≡ first_or (bytes_eq n x.name) x.procedure (command_number n ys)
put_found n x [] h = refl
put_found n x (y ∷ ys) h = go (by_name x.name y.name) refl (put_found n x ys h.1)
  where
    go : (o : Ordering) → by_name x.name y.name ≡ o → command_number n (put_in (λ a b. by_name a.name b.name) x ys) ≡ first_or (bytes_eq n x.name) x.procedure (command_number n ys) → command_number n (put_before o x y ys (put_in (λ a b. by_name a.name b.name) x ys)) ≡ first_or (bytes_eq n x.name) x.procedure (command_number n (y ∷ ys))
    go Less e r = refl
    go Equal e r = absurd (false≢true (sym h.0 ∙ equal_names x.name y.name e))
    go Greater e r = ap (first_or (bytes_eq n y.name) y.procedure) r ∙ either_first n x.name y.name h.0 (bytes_eq n x.name) (bytes_eq n y.name) refl refl x.procedure y.procedure (command_number n ys)

abbrev pub AreApart : List Command → Type 0
AreApart [] = Unit {0}
AreApart (c ∷ cs) = AreOthers c.name cs × AreApart cs

pub order_found : (n : List ℕ) (cs : List Command) → AreApart cs → command_number n (in_their_order cs) ≡ command_number n cs
order_found n [] h = refl
order_found n (c ∷ cs) h =
    put_found n c (in_their_order cs) (all_in_order (λ a b. by_name a.name b.name) (λ d. bytes_eq c.name d.name ≡ false) cs h.0)
    ∙ ap (first_or (bytes_eq n c.name) c.procedure) (order_found n cs h.1)

-- ---- rows of the table of procedures

abbrev pub plain_procedure : Procedure → Bool
plain_procedure p = nat_eq (length p.parameters) 0 && not (has_result p.result)

abbrev pub plain_at : Option Procedure → Bool
plain_at None = false
plain_at (Some p) = plain_procedure p

module _ (types : QName → Option Desc) (m : Module) where
  row_plain : (p : Procedure) (pc : ℕ) → is_plain (Some (row_of types m p pc)) ≡ plain_procedure p
  row_plain p pc = ap (λ n. nat_eq n 0 && not (has_result p.result)) (length-map p.parameters _)

  pub rows_plain : (ps : List Procedure) (pc k : ℕ) → is_plain (slice_get (rows_of types m ps pc) k) ≡ plain_at (slice_get ps k)
  rows_plain [] pc k = refl
  rows_plain (p ∷ ps) pc zero = row_plain p pc
  rows_plain (p ∷ ps) pc (suc k) = rows_plain ps (end_procedure types m p pc) k

-- ---- the procedures from an index on

-- the procedures stand from this index on
abbrev pub StandFrom : List Procedure → ℕ → List Procedure → Type 0
StandFrom all k [] = Unit {0}
StandFrom all k (p ∷ ps) = (slice_get all k ≡ Some p) × StandFrom all (suc k) ps

pub one_further : (p : Procedure) (all : List Procedure) (k : ℕ) (ps : List Procedure) → StandFrom all k ps → StandFrom (p ∷ all) (suc k) ps
one_further p all k [] h = tt
one_further p all k (q ∷ ps) h = (h.0, one_further p all (suc k) ps h.1)

pub from_start : (ps : List Procedure) → StandFrom ps 0 ps
from_start [] = tt
from_start (p ∷ ps) = (refl, one_further p ps 0 ps (from_start ps))

abbrev pub Differ : List ℕ → List Procedure → Type 0
Differ n ps = AllByRecursion (λ p. bytes_eq n p.name ≡ false) ps

abbrev pub AreDistinct : List Procedure → Type 0
AreDistinct [] = Unit {0}
AreDistinct (p ∷ ps) = Differ p.name ps × AreDistinct ps

mapped_differ : (n : List ℕ) (ps : List Procedure) → AllByRecursion (λ x. bytes_eq n x ≡ false) (map (λ p. p.name) ps) → Differ n ps
mapped_differ n [] h = tt
mapped_differ n (p ∷ ps) h = (h.0, mapped_differ n ps h.1)

pub distinct_from : (ps : List Procedure) → IsDistinct bytes_eq (map (λ p. p.name) ps) → AreDistinct ps
unfolding IsDistinct
distinct_from [] h = tt
distinct_from (p ∷ ps) h = (mapped_differ p.name ps h.0, distinct_from ps h.1)

others_among : (b : Bool) (n : List ℕ) (p : Procedure) (k : ℕ) (cs : List Command) → bytes_eq n p.name ≡ false → AreOthers n cs → AreOthers n (if b then record { name = p.name; procedure = k } ∷ cs else cs)
others_among true n p k cs e h = (e, h)
others_among false n p k cs e h = h

module _ (types : QName → Option Desc) (m : Module) where
  none_among : (n : List ℕ) (ps : List Procedure) (k : ℕ) → Differ n ps → AreOthers n (commands_among types m ps k)
  none_among n [] k h = tt
  none_among n (p ∷ ps) k h = others_among (is_full p.mark && is_free p.binding) n p k (commands_among types m ps (suc k)) h.0 (none_among n ps (suc k) h.1)

  apart_if : (b : Bool) (p : Procedure) (k : ℕ) (cs : List Command) → AreOthers p.name cs → AreApart cs → AreApart (if b then record { name = p.name; procedure = k } ∷ cs else cs)
  apart_if true p k cs h a = (h, a)
  apart_if false p k cs h a = a

  pub apart_among : (ps : List Procedure) (k : ℕ) → AreDistinct ps → AreApart (commands_among types m ps k)
  apart_among [] k h = tt
  apart_among (p ∷ ps) k h = apart_if (is_full p.mark && is_free p.binding) p k (commands_among types m ps (suc k)) (none_among p.name ps (suc k) h.0) (apart_among ps (suc k) h.1)

  no_number : (n : List ℕ) (cs : List Command) → AreOthers n cs → command_number n cs ≡ None
  no_number n [] h = refl
  no_number n (c ∷ cs) h = ap (λ b. first_or b c.procedure (command_number n cs)) h.0 ∙ no_number n cs h.1

  -- ---- whether a procedure is a command

  abbrev pub numbered_by : List Row → Option ℕ → Option ℕ
  numbered_by rows None = None
  numbered_by rows (Some k) = if is_plain (slice_get rows k) then Some k else None

  there_if_number : (b : Bool) (k : ℕ) → is_there (if b then Some k else None) ≡ b
  there_if_number true k = refl
  there_if_number false k = refl

  there_if_command : (b : Bool) (p : Procedure) → is_there (if b then Some p else None) ≡ b
  there_if_command true p = refl
  there_if_command false p = refl

  no_parameter : (ps : List TypedParameter) → nat_eq (length ps) 0 ≡ is_none_of ps
  no_parameter [] = refl
  no_parameter (p ∷ ps) = grind arith

  no_result : (o : Option TypeRef) → not (has_result o) ≡ is_none o
  no_result None = refl
  no_result (Some t) = refl

  free : (o : Option Binding) → is_free o ≡ is_none o
  free None = refl
  free (Some b) = refl

  plain_is : (p : Procedure) → plain_procedure p ≡ (is_none_of p.parameters && is_none p.result)
  plain_is p = ap (λ b. b && not (has_result p.result)) (no_parameter p.parameters) ∙ ap (λ b. is_none_of p.parameters && b) (no_result p.result)

  abbrev pub told : Bool → Bool → Bool → Bool → Bool
  told full identifier free plain = full && (identifier && (free && plain))

  pub command_told : (p : Procedure) → is_full p.mark ≡ not (is_hidden p.mark) → is_command p ≡ told (is_full p.mark) (is_identifier p.name) (is_free p.binding) (plain_procedure p)
  command_told p e =
      ap (λ b. told b (is_identifier p.name) (is_none p.binding) (is_none_of p.parameters && is_none p.result)) (sym e)
      ∙ ap (λ b. told (is_full p.mark) (is_identifier p.name) b (is_none_of p.parameters && is_none p.result)) (sym (free p.binding))
      ∙ ap (told (is_full p.mark) (is_identifier p.name) (is_free p.binding)) (sym (plain_is p))

  told_true : (full identifier free plain : Bool) → (full && free) ≡ true → identifier ≡ true → told full identifier free plain ≡ plain
  told_true true true true plain e i = refl
  told_true true true false plain e i = absurd (false≢true e)
  told_true true false free plain e i = absurd (false≢true i)
  told_true false identifier free plain e i = absurd (false≢true e)

  told_false : (full identifier free plain : Bool) → (full && free) ≡ false → told full identifier free plain ≡ false
  told_false true true true plain e = absurd (false≢true (sym e))
  told_false true true false plain e = refl
  told_false true false free plain e = refl
  told_false false identifier free plain e = refl

  -- a procedure of that name: its row tells whether it is a command
  here : (all : List Procedure) (k : ℕ) (p : Procedure) → slice_get all k ≡ Some p → is_full p.mark ≡ not (is_hidden p.mark) → (is_full p.mark && is_free p.binding) ≡ true → is_identifier p.name ≡ true → is_there (numbered_by (rows_of types m all 0) (Some k)) ≡ is_there (when_command (Some p))
  here all k p at e exported named =
      there_if_number (is_plain (slice_get (rows_of types m all 0) k)) k
      ∙ rows_plain types m all 0 k ∙ ap plain_at at
      ∙ sym (there_if_command (is_command p) p ∙ command_told p e ∙ told_true (is_full p.mark) (is_identifier p.name) (is_free p.binding) (plain_procedure p) exported named)

  hidden_here : (p : Procedure) → is_full p.mark ≡ not (is_hidden p.mark) → (is_full p.mark && is_free p.binding) ≡ false → is_there (when_command (Some p)) ≡ false
  hidden_here p e hidden = there_if_command (is_command p) p ∙ command_told p e ∙ told_false (is_full p.mark) (is_identifier p.name) (is_free p.binding) (plain_procedure p) hidden

  step : (all : List Procedure) (n : List ℕ) (p : Procedure) (k : ℕ) (ps : List Procedure) → slice_get all k ≡ Some p → is_full p.mark ≡ not (is_hidden p.mark) → ((is_full p.mark && is_free p.binding) ≡ true → is_identifier p.name ≡ true) → Differ p.name ps → is_there (numbered_by (rows_of types m all 0) (command_number n (commands_among types m ps (suc k)))) ≡ is_there (when_command (procedure_named ps n)) → (b t : Bool) → (is_full p.mark && is_free p.binding) ≡ b → bytes_eq n p.name ≡ t → is_there (numbered_by (rows_of types m all 0) (command_number n (if b then record { name = p.name; procedure = k } ∷ commands_among types m ps (suc k) else commands_among types m ps (suc k)))) ≡ is_there (when_command (if t then Some p else procedure_named ps n))
  step all n p k ps at mark identifier differ rest true true e f = ap (λ b. is_there (numbered_by (rows_of types m all 0) (first_or b k (command_number n (commands_among types m ps (suc k)))))) f ∙ here all k p at mark e (identifier e)
  step all n p k ps at mark identifier differ rest true false e f = ap (λ b. is_there (numbered_by (rows_of types m all 0) (first_or b k (command_number n (commands_among types m ps (suc k)))))) f ∙ rest
  step all n p k ps at mark identifier differ rest false true e f =
      ap (λ o. is_there (numbered_by (rows_of types m all 0) o)) (no_number n (commands_among types m ps (suc k)) (none_among n ps (suc k) (subst (λ x. Differ x ps) (sym ((bytes_eq-Decides n p.name).0 f)) differ)))
      ∙ sym (hidden_here p mark e)
  step all n p k ps at mark identifier differ rest false false e f = rest

  among_found : (all : List Procedure) (n : List ℕ) (ps : List Procedure) (k : ℕ) → StandFrom all k ps → AreDistinct ps → AllByRecursion (λ p. (is_full p.mark && is_free p.binding) ≡ true → is_identifier p.name ≡ true) ps → AllByRecursion (λ p. is_full p.mark ≡ not (is_hidden p.mark)) ps → is_there (numbered_by (rows_of types m all 0) (command_number n (commands_among types m ps k))) ≡ is_there (when_command (procedure_named ps n))
  among_found all n [] k st d i e = refl
  among_found all n (p ∷ ps) k st d i e = step all n p k ps st.0 e.0 i.0 d.0 (among_found all n ps (suc k) st.1 d.1 i.1 e.1) (is_full p.mark && is_free p.binding) (bytes_eq n p.name) refl refl

  -- WHETHER THERE IS A COMMAND of a name
  pub command_found : (n : List ℕ) → AreProceduresNamed m.procedures → is_there (numbered_by (module_rows types m) (command_number n (in_their_order (commands_among types m m.procedures 1)))) ≡ is_there (when_command (procedure_named m.procedures n))
  command_found n h =
      ap (λ o. is_there (numbered_by (module_rows types m) o)) (order_found n (commands_among types m m.procedures 1) (apart_among m.procedures 1 (distinct_from m.procedures h.names)))
      ∙ among_found (all_procedures m) n m.procedures 1 (one_further (body_of m) m.procedures 0 m.procedures (from_start m.procedures)) (distinct_from m.procedures h.names) h.identifiers h.marks
