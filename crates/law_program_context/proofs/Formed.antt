-- Wherever types are known in a module of a program, the map says what the program has.
use Rattle.std.proofs.Common.{◌≡◌, ◌≢◌, refl, sym, ap, subst, ◌∙◌, ℕ, List, [], ◌∷◌, ◌++◌, map as each, Option}
use Rattle.std.specs.List.{AllByRecursion}
use Rattle.ob_tree.specs.declared.names.QName.{QName}
use Rattle.ob_types.specs.declared.desc.Desc.{Desc}
use Rattle.ob_types.specs.declared.desc.Desc.TheVariants as desc
use Rattle.ob_types.specs.declared.desc.Field.{Field}
use Rattle.ob_types.specs.declared.desc.Method.{Method}
use Rattle.ob_types.specs.declared.typed.TypedType.{TypedType}
use Rattle.ob_types.specs.TypedSyntax.{Module}
use Rattle.ob_types.specs.TypedView.{module_view}
use Rattle.ob_layout.specs.LaidOut.{laid_type}
use Rattle.law_typing_forms.specs.Said.{IsAmong, IsBoundAmong}
use Rattle.law_typing_forms.specs.Whole.{Different}
use Rattle.law_typing_forms.proofs.Modules.{own}
use Rattle.law_typing_env.specs.Views.{SaysNoMore, IsEarly}
use Rattle.law_typing_env.proofs.Views.{ruled_formed}
use Rattle.law_body_context.specs.Judged.{HasMore, IsTold}
use Rattle.law_body_context.proofs.Lists.{one_left, all_one}
use Rattle.law_program_context.specs.JudgedLaws.{MapsFormed}
use Rattle.law_program_context.proofs.Age.{age_in}

-- before procedures are bound a description says no more
says : (d e : Desc) → HasMore d e → SaysNoMore d e
says (desc.Record r) e h = (
  record r { methods = r.methods ++ h.0 },
  (
    h.1,
    record {
      base = refl;
      fields = all_one (λ (f : Field). IsAmong r.fields f) r.fields (λ f i. record { g = f; there = i; name = refl; of = refl });
      methods = all_one (λ (k : Method). IsBoundAmong (r.methods ++ h.0) k) r.methods (λ k i. record { k = k; there = one_left r.methods h.0 k i; name = refl; receiver = refl; signature = refl });
    },
  ),
)
says (desc.Const v) e h = sym h.1
says (desc.Var m t) e h = sym h.1
says (desc.Proc s) e h = sym h.1
says (desc.Alias m t) e h = sym h.1
says (desc.Array m n t) e h = sym h.1
says (desc.OpenArray m t) e h = sym h.1
says (desc.Pointer m t) e h = sym h.1
says (desc.ProcType m s) e h = sym h.1

early : (ts : List TypedType) (t : TypedType) → IsTold ts t → IsEarly ts t
early ts t h = record { s = h.0; there = h.1.0; name = h.1.1.0; says = says t.desc h.0.desc h.1.1.1 }

module _ (types : QName → Option Desc) (m : Module) where
  unlaid_fresh : (x : List ℕ) (ts : List TypedType) → AllByRecursion (λ (y : TypedType). y.name ≢ x) (each (laid_type types m) ts) → AllByRecursion (λ (y : TypedType). y.name ≢ x) ts
  unlaid_fresh x [] h = tt
  unlaid_fresh x (t ∷ ts) h = (h.0, unlaid_fresh x ts h.1)

  -- the layout leaves the names
  pub unlaid_differ : (ts : List TypedType) → Different (λ (t : TypedType). t.name) (each (laid_type types m) ts) → Different (λ (t : TypedType). t.name) ts
  unlaid_differ [] h = tt
  unlaid_differ (t ∷ ts) h = (unlaid_fresh t.name ts h.0, unlaid_differ ts h.1)

pub maps_formed : MapsFormed
maps_formed program sound whole m there j fields w h =
    let same_name : m.name ≡ j.checked.name = ap (λ (k : Module). k.name) j.is in
    let same_types : m.types ≡ each (laid_type j.types (module_view j.checked)) j.checked.types = ap (λ (k : Module). k.types) j.is in
    let differ = unlaid_differ j.types (module_view j.checked) j.checked.types (subst (Different (λ (t : TypedType). t.name)) same_types (own program whole m there).types) in
    ruled_formed program sound whole j.faces w
    (record {
      m = m;
      checked = module_view j.checked;
      types = j.types;
      there = there;
      laid = record { name = same_name; types_are = same_types; fields = fields };
      unit = h.unit_is ∙ sym same_name;
      own = all_one (IsEarly j.checked.types) w.own (λ t i. early j.checked.types t (j.bodies.told differ t (h.own t i)));
      interfaces = h.shown_is;
      age = age_in program m j;
    })
