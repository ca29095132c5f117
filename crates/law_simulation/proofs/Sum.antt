-- All premises of the law of simulation are met for the example, so that the machine's run ends as its meaning ends.
use Rattle.std.proofs.Common.{◌≡◌, ℕ, List, [], ◌∷◌, Option, Some, None, refl, sym, ap, ◌∙◌, subst, arith}
use Rattle.std.specs.Prelude.{pos, Bool, true, false, bytes_eq, if◌then◌else◌}
use Rattle.std.specs.Fmt.{digits}
use Rattle.ob_tree.specs.declared.names.QName.{QName}
use Rattle.ob_types.specs.declared.types.Mode.TheVariants as mode
use Rattle.ob_types.specs.declared.typed.Width.TheVariants as width
use Rattle.ob_types.specs.declared.typed.Comparison.TheVariants as comparison
use Rattle.ob_types.specs.TypedSyntax.{Procedure}
use Rattle.ob_instr.specs.declared.procedure.Param.TheVariants as param
use Rattle.ob_meaning.specs.Values.{bases_in, procedure_of}
use Rattle.ob_meaning.specs.Commands.{run_first}
use Rattle.law_simulation_relation.specs.Typed as typed
use Rattle.law_simulation_relation.specs.Typed.{longint, boolean}
use Rattle.law_simulation_relation.proofs.Names.{bytes_true}
use Rattle.ob_meaning.specs.Results.{Res, Gives, Stops}
use Rattle.ob_meaning.specs.Meaning.{Flow}
use Rattle.law_simulation.proofs.Whole.{command_simulates}
use Rattle.law_simulation_relation.specs.Linked.{Linked, ProcedureStands, TypesStand}
use Rattle.law_simulation_relation.specs.Setting.{Setting, StandIn}
use Rattle.law_simulation_records.specs.Bases.{BasesStand}
use Rattle.law_simulation_operators.specs.Procedures.{ValuesNumbered}
use Rattle.ob_types.specs.declared.typed.Family.{Family}
use Rattle.law_simulation_calls.specs.Signatures.{ValuesMatch}
use Rattle.law_simulation_calls.specs.Tables.{TablesStand, FamiliesStand}
use Rattle.law_simulation_calls.proofs.Unbound.{unbound}
use Rattle.law_simulation.specs.Simulates.{ImageStands, Simulates}
use Rattle.law_simulation.specs.Slice.{AllIn, InStmts}
use Rattle.law_simulation.specs.Nothing.{none}
use Rattle.law_simulation.proofs.Nothing.{none_length}
use Rattle.ob_instr.specs.Table.{Ends}
use Rattle.law_simulation.specs.Sum.{add, add_name, at, begins, code, entry_at, go_name, image, k, loaded, m, named, p, program, run_it, unit, words, Example}

abbrev setting : Setting
setting = record {
  program = program;
  has = λ s q. false;
  img = image;
  heap = 1000;
  behind = none 262143;
  ok = (tt, ((tt, tt), tt));
  globals = refl;
  stack = refl;
  activations = refl;
  operands = refl;
  heap_few = omega arith;
}

add_stands : ProcedureStands setting (named add_name) add
add_stands = record {
  m = 0;
  u = loaded;
  is = record { is = refl };
  named = refl;
  first = refl;
  methods = λ f. 0;
  entry = entry_at 1 (param.Var ∷ param.Scalar ∷ []);
  found = refl;
  kinds = ((refl, tt), ((refl, tt), tt));
  locals = refl;
  small = omega arith;
  gives = refl;
  at = 0;
  code = (
    (
      (record { is = refl }, record { is = refl }),
      ((((record { is = refl }, record { is = refl }), record { is = refl }), ((record { is = refl }, record { is = refl }), record { has = record { is = refl }; place = refl })), record { is = refl }),
    ),
    tt,
  );
  last = record { is = refl };
  inside = omega arith;
  need = omega arith;
  ok = ((((refl, refl), (mode.Var, refl)), (((longint, longint, longint, typed.sum width.LongInt, (((refl, refl), (mode.Var, refl)), (tt, typed.itself)), (((tt, refl), (mode.Value, refl)), (tt, typed.itself)), typed.itself)), tt)), tt);
  different = ((refl, tt), (tt, tt));
  forms = tt;
}

go_stands : ProcedureStands setting (named go_name) run_it
go_stands = record {
  m = 0;
  u = loaded;
  is = record { is = refl };
  named = refl;
  first = refl;
  methods = λ f. 0;
  entry = entry_at 11 [];
  found = refl;
  kinds = tt;
  locals = refl;
  small = omega arith;
  gives = refl;
  at = 0;
  code = (
    (record { is = refl }, (record { is = refl }, record { is = refl })),
    (
      (
        (((record { is = refl }, record { is = refl }), (record { is = refl }, record { has = record { is = refl }; place = tt }))),
        (
          record { is = refl },
          (
            ((((record { is = refl }, (record { is = refl }, tt)), (record { is = record { is = refl } }, refl)), tt)),
            (record { has = record { is = refl }; place = refl }, omega arith),
          ),
        ),
      ),
      (((((record { is = refl }, record { is = refl }), (record { is = refl }, tt)), record { has = record { is = refl }; place = refl })), tt),
    ),
  );
  last = record { is = refl };
  inside = omega arith;
  need = omega arith;
  ok = (
    (((tt, refl), tt), ((width.LongInt, refl, refl), tt)),
    (
      (
        (longint, longint, boolean, typed.integers comparison.Less, (((tt, refl), tt), (tt, typed.itself)), (width.LongInt, refl, refl), typed.itself),
        ((((add, refl, refl, (refl, (tt, ((((tt, refl), tt), λ a s. s, tt), (refl, (tt, (((width.LongInt, refl, refl), tt), tt))))))), refl, tt)), tt),
      ),
      (((refl, ((((tt, refl), tt), (tt, typed.itself)), ((width.LongInt, refl, refl), tt))), refl, (refl, refl, (refl, refl, tt))), tt),
    ),
  );
  different = tt;
  forms = tt;
}

abbrev found_in : QName → Option Procedure
found_in q = procedure_of program q

-- the two procedures are all that there are
by_name : (P : QName → Procedure → Type 0) → P (named add_name) add → P (named go_name) run_it → (q : QName) (r : Procedure) → found_in q ≡ Some r → P q r
by_name P a g q r e = in_module (bytes_eq q.module m) refl e
  where
    in_module : (z : Bool) → bytes_eq q.module m ≡ z → (if z then (if bytes_eq q.object add_name then Some add else (if bytes_eq q.object go_name then Some run_it else None)) else None) ≡ Some r → P q r
    in_module false f h = absurd (cc)
    in_module true f h = first (bytes_eq q.object add_name) refl h
      where
        same : (y : List ℕ) → bytes_eq q.object y ≡ true → named y ≡ q
        same y f2 = ap (λ (z : List ℕ). record { «module» = z; object = y }) (sym (bytes_true q.module m f)) ∙ ap (λ (z : List ℕ). record { «module» = q.module; object = z }) (sym (bytes_true q.object y f2))

        second : (z : Bool) → bytes_eq q.object go_name ≡ z → (if z then Some run_it else None) ≡ Some r → P q r
        second false f2 h = absurd (cc)
        second true f2 h = let e2 : run_it ≡ r = cc in subst (λ q. P q r) (same go_name f2) (subst (λ r. P (named go_name) r) e2 g)

        first : (z : Bool) → bytes_eq q.object add_name ≡ z → (if z then Some add else (if bytes_eq q.object go_name then Some run_it else None)) ≡ Some r → P q r
        first true f2 h = let e2 : add ≡ r = cc in subst (λ q. P q r) (same add_name f2) (subst (λ r. P (named add_name) r) e2 a)
        first false f2 h = second (bytes_eq q.object go_name) refl h

linked : Linked setting
linked q r e = by_name (λ q r. ProcedureStands setting q r) add_stands go_stands q r e

all_in : AllIn setting
all_in q r e = by_name (λ q r. InStmts r.body) ((tt, (tt, tt)), tt) ((tt, tt), (((tt, tt), ((tt, (tt, tt)), tt)), ((tt, tt), tt))) q r e

stands : StandIn setting [] begins words
stands = record {
  stack_free = none 1048576;
  heap_free = none 1000;
  words = refl;
  globals_size = omega (arith, none_length 262143);
  stack_size = omega (arith, none_length 1048576);
  heap_size = omega (arith, none_length 1000);
  stack = refl;
  heap_next = refl;
  turns = refl;
  out = refl;
  modules_fine = ((tt, ((pos 0, refl, refl), tt)), tt);
  calls_fine = tt;
  objects_fine = tt;
}

-- there is no record type
no_types : TypesStand setting
no_types q line e = absurd (cc)

no_bases : BasesStand setting
no_bases = record { lines = λ q line e. absurd (cc); extends = λ q line e b h. absurd (cc); tags = λ n lt. absurd (omega (arith, lt)) }

-- and no variable of a procedure type, so the image stands
no_values : ValuesNumbered setting
no_values s q e = absurd (cc)

no_match : ValuesMatch setting
no_match s q p e found = absurd (cc)

-- and no bound procedure
no_tables : (methods : Family → ℕ) → TablesStand setting methods
no_tables methods t f q is e = absurd (unbound unit (λ t f. refl) (bases_in program t) f q e)

no_families : FamiliesStand setting
no_families t f k q p built near found rk d own sub = absurd (unbound unit (λ t f. refl) (bases_in program t) f q near)

stands_so : ImageStands setting
stands_so = record { linked = linked; types = no_types; bases = no_bases; numbered = no_values; match = no_match; tables = λ q p found. no_tables ((linked q p found).methods); families = no_families }

-- and the machine's run ends as the command's meaning
tried : Simulates setting (record { «module» = 0; proc = 2 }) words (run_first program 1000 (named go_name) run_it begins)
tried = command_simulates setting stands_so all_in (named go_name) run_it refl refl refl begins words refl stands

-- which ends as it should, and whose text is computed from the meaning alone
abbrev is_done : Res Flow → Bool
is_done (Gives f s) = true
is_done (Stops y s) = false

abbrev output : Res Flow → List ℕ
output (Gives f s) = s.out
output (Stops y s) = []

from : (r : Res Flow) → is_done r ≡ true → output r ≡ 53 ∷ [] → Simulates setting (record { «module» = 0; proc = 2 }) words r → Example
from (Gives f s) done text k = record { after = k.after; ends = subst (λ e. Ends image (record { «module» = 0; proc = 2 }) words e k.after) k.same.0 k.run_ends; text = k.same.1.out ∙ text }
from (Stops y s) done text k = absurd (cc)

written : output (run_first program 1000 (named go_name) run_it begins) ≡ 53 ∷ []
unfolding digits
written = refl

pub example : Example
example = from (run_first program 1000 (named go_name) run_it begins) refl written tried
