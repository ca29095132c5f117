-- A command of a module has in its file the number of its procedure.
use Rattle.std.proofs.Common.{◌≡◌, ℕ, zero, suc, List, [], ◌∷◌, map, refl, sym, ap, ◌∙◌, subst, Option, Some, None}
use Rattle.std.specs.Prelude.{Bool, true, false, not, ◌&&◌, is_none, bytes_eq, unwrap_or, slice_get, IsSome, if◌then◌else◌}
use Rattle.std.specs.Ordering.{is_eq}
use Rattle.std.specs.declared.cmp.Ordering.{Ordering}
use Rattle.std.specs.declared.cmp.Ordering.TheVariants as order
use Rattle.std.proofs.lemmas.Option.{none-some}
use Rattle.ob_tree.specs.declared.names.QName.{QName}
use Rattle.ob_format.specs.Names.{is_identifier}
use Rattle.ob_types.specs.declared.types.TypeRef.{TypeRef}
use Rattle.ob_types.specs.declared.desc.Desc.{Desc}
use Rattle.ob_types.specs.declared.typed.Binding.{Binding}
use Rattle.ob_types.specs.declared.typed.TypedParameter.{TypedParameter}
use Rattle.ob_types.specs.TypedSyntax.{Procedure, Module}
use Rattle.ob_obj.specs.declared.parts.Command.{Command}
use Rattle.ob_obj.specs.Grammar.{by_name}
use Rattle.ob_obj.specs.Images.{named}
use Rattle.ob_meaning.specs.Values.{procedure_named}
use Rattle.ob_meaning.specs.Commands.{is_hidden, is_none_of, is_command, when_command}
use Rattle.ob_layout.specs.Lists.{put_before, put_in, in_order}
use Rattle.ob_scheme.specs.Procedures.{has_result, end_procedure, row_of, rows_of, all_procedures}
use Rattle.ob_scheme.specs.Object.{is_full, is_free, commands_among, commands}
use Rattle.law_simulation_relation.specs.Layout.{procedure_number, procedure_index}
use Rattle.law_simulation_relation.specs.Relation.{OrElse}
use Rattle.law_simulation_relation.proofs.Names.{bytes_true}
use Rattle.law_image_code.specs.Fits.{IsNamed}
use Rattle.law_image_links.specs.Contents.{FilesHaveCommands}
use Rattle.law_image_links.proofs.Lookup.{same_is, all_at, order_numbered, named_is}
use Rattle.law_image_links.proofs.Modules.{procedures_differ, index_named, commands_all_numbered}
use Rattle.law_lists.proofs.Lists.{and_parts}

-- NAMES IN LISTS OF COMMANDS

abbrev Has : List ℕ → List Command → Type 0
Has x [] = ⊥
Has x (c ∷ cs) = OrElse (bytes_eq x c.name) (Unit {0}) (Has x cs)

abbrev R : Command → Command → Ordering
R a b = by_name a.name b.name

one_name : (a b : List ℕ) → by_name a b ≡ order.Equal → a ≡ b
one_name a b e = bytes_true a b (sym (same_is a b) ∙ ap is_eq e)

put_has : (x : List ℕ) (y : Command) (l : List Command) → Has x (y ∷ l) → Has x (put_in R y l)
put_has x y [] h = h
put_has x y (z ∷ l) h = go (R y z) refl (bytes_eq x y.name) refl (bytes_eq x z.name) refl h (λ t. put_has x y l t)
  where
    more_of : (a b : Bool) → bytes_eq x y.name ≡ a → OrElse a (Unit {0}) (Has x l) → Has x (y ∷ l)
    more_of a b e t = subst (λ k. OrElse k (Unit {0}) (Has x l)) (sym e) t

    go : (o : Ordering) → R y z ≡ o → (a : Bool) → bytes_eq x y.name ≡ a → (b : Bool) → bytes_eq x z.name ≡ b → OrElse a (Unit {0}) (OrElse b (Unit {0}) (Has x l)) → (Has x (y ∷ l) → Has x (put_in R y l)) → Has x (put_before o y z l (put_in R y l))
    go order.Less e a f b g t more = subst (λ k. OrElse k (Unit {0}) (Has x (z ∷ l))) (sym f) (subst (λ k. OrElse a (Unit {0}) (OrElse k (Unit {0}) (Has x l))) (sym g) t)
    go order.Equal e true f b g t more = subst (λ k. OrElse k (Unit {0}) (Has x l)) (sym (ap (bytes_eq x) (sym (one_name y.name z.name e)) ∙ f)) tt
    go order.Equal e false f b g t more = subst (λ k. OrElse k (Unit {0}) (Has x l)) (sym g) t
    go order.Greater e a f true g t more = subst (λ k. OrElse k (Unit {0}) (Has x (put_in R y l))) (sym g) tt
    go order.Greater e a f false g t more = subst (λ k. OrElse k (Unit {0}) (Has x (put_in R y l))) (sym g) (more (more_of a false f t))

order_has : (x : List ℕ) (l : List Command) → Has x l → Has x (in_order R l)
order_has x [] h = absurd h
order_has x (y ∷ l) h = put_has x y (in_order R l) (go (bytes_eq x y.name) h (λ t. order_has x l t))
  where
    go : (b : Bool) → OrElse b (Unit {0}) (Has x l) → (Has x l → Has x (in_order R l)) → OrElse b (Unit {0}) (Has x (in_order R l))
    go true h more = tt
    go false h more = more h

some_named : (x : List ℕ) (l : List Command) → Has x l → IsSome (named (map (λ c. (c.name, c.procedure)) l) x)
some_named x [] h = absurd h
some_named x (c ∷ l) h = subst (λ b. IsSome (if b then Some c.procedure else named (map (λ d. (d.name, d.procedure)) l) x)) (sym (same_is x c.name)) (go (bytes_eq x c.name) h (λ t. some_named x l t))
  where
    go : (b : Bool) → OrElse b (Unit {0}) (Has x l) → (Has x l → IsSome (named (map (λ d. (d.name, d.procedure)) l) x)) → IsSome (if b then Some c.procedure else named (map (λ d. (d.name, d.procedure)) l) x)
    go true h more = refl
    go false h more = more h

-- A PROCEDURE THAT IS FOUND

inside : (p r : Procedure) → Some p ≡ Some r → p ≡ r
inside p r e = ap (λ o. unwrap_or o p) e

found_at : (ps : List Procedure) (x : List ℕ) (p : Procedure) → procedure_named ps x ≡ Some p → slice_get ps (procedure_number ps x) ≡ Some p
found_at [] x p e = absurd (none-some _ e)
found_at (r ∷ ps) x p e = go (bytes_eq x r.name) e (λ f. found_at ps x p f)
  where
    go : (b : Bool) → (if b then Some r else procedure_named ps x) ≡ Some p → (procedure_named ps x ≡ Some p → slice_get ps (procedure_number ps x) ≡ Some p) → slice_get (r ∷ ps) (if b then 0 else suc (procedure_number ps x)) ≡ Some p
    go true e more = e
    go false e more = more e

its_name : (ps : List Procedure) (x : List ℕ) (p : Procedure) → procedure_named ps x ≡ Some p → x ≡ p.name
its_name [] x p e = absurd (none-some _ e)
its_name (r ∷ ps) x p e = go (bytes_eq x r.name) refl e (λ f. its_name ps x p f)
  where
    go : (b : Bool) → bytes_eq x r.name ≡ b → (if b then Some r else procedure_named ps x) ≡ Some p → (procedure_named ps x ≡ Some p → x ≡ p.name) → x ≡ p.name
    go true f e more = bytes_true x r.name f ∙ ap (λ q. q.name) (inside r p e)
    go false f e more = more e

abbrev is_shown : Procedure → Bool
is_shown p = is_full p.mark && is_free p.binding

among_has : (types : QName → Option Desc) (md : Module) (ps : List Procedure) (n : ℕ) (x : List ℕ) (p : Procedure) → procedure_named ps x ≡ Some p → is_shown p ≡ true → Has x (commands_among types md ps n)
among_has types md [] n x p e s = absurd (none-some _ e)
among_has types md (r ∷ ps) n x p e s = go (bytes_eq x r.name) refl e (λ f. among_has types md ps (suc n) x p f s)
  where
    here : bytes_eq x r.name ≡ true → Has x (record { name = r.name; procedure = n } ∷ commands_among types md ps (suc n))
    here f = subst (λ b. OrElse b (Unit {0}) (Has x (commands_among types md ps (suc n)))) (sym f) tt

    on : (b : Bool) → bytes_eq x r.name ≡ false → Has x (commands_among types md ps (suc n)) → Has x (if b then record { name = r.name; procedure = n } ∷ commands_among types md ps (suc n) else commands_among types md ps (suc n))
    on true f h = subst (λ b. OrElse b (Unit {0}) (Has x (commands_among types md ps (suc n)))) (sym f) h
    on false f h = h

    go : (b : Bool) → bytes_eq x r.name ≡ b → (if b then Some r else procedure_named ps x) ≡ Some p → (procedure_named ps x ≡ Some p → Has x (commands_among types md ps (suc n))) → Has x (if is_shown r then record { name = r.name; procedure = n } ∷ commands_among types md ps (suc n) else commands_among types md ps (suc n))
    go true f e more = subst (λ b. Has x (if b then record { name = r.name; procedure = n } ∷ commands_among types md ps (suc n) else commands_among types md ps (suc n))) (sym (ap is_shown (inside r p e) ∙ s)) (here f)
    go false f e more = on (is_shown r) f (more e)

-- ROWS

pub record RowAt (types : QName → Option Desc) (md : Module) (ps : List Procedure) (pc k : ℕ) (p : Procedure) : Type 0 where
  pub entry : ℕ
  pub is : slice_get (rows_of types md ps pc) k ≡ Some (row_of types md p entry)

row_at : (types : QName → Option Desc) (md : Module) (ps : List Procedure) (pc k : ℕ) (p : Procedure) → slice_get ps k ≡ Some p → RowAt types md ps pc k p
row_at types md [] pc k p e = absurd (none-some _ e)
row_at types md (r ∷ ps) pc zero p e = record { entry = pc; is = ap (λ q. Some (row_of types md q pc)) (inside r p e) }
row_at types md (r ∷ ps) pc (suc k) p e = let h = row_at types md ps (end_procedure types md r pc) k p e in record { entry = h.entry; is = h.is }

-- COMMANDS

record Command_of (p : Procedure) : Type 0 where
  pub seen : not (is_hidden p.mark) ≡ true
  pub free : is_free p.binding ≡ true
  pub params : p.parameters ≡ []
  pub result : has_result p.result ≡ false

unbound : (o : Option Binding) → is_none o ≡ true → is_free o ≡ true
unbound None e = refl
unbound (Some b) e = absurd (cc)

no_items : (l : List TypedParameter) → is_none_of l ≡ true → l ≡ []
no_items [] e = refl
no_items (x ∷ l) e = absurd (cc)

nothing_given : (o : Option TypeRef) → is_none o ≡ true → has_result o ≡ false
nothing_given None e = refl
nothing_given (Some t) e = absurd (cc)

is_one : (p : Procedure) → is_command p ≡ true → Command_of p
is_one p e =
    let a = and_parts (not (is_hidden p.mark)) (is_identifier p.name && (is_none p.binding && (is_none_of p.parameters && is_none p.result))) e in
    let b = and_parts (is_identifier p.name) (is_none p.binding && (is_none_of p.parameters && is_none p.result)) a.1 in
    let d = and_parts (is_none p.binding) (is_none_of p.parameters && is_none p.result) b.1 in
    let f = and_parts (is_none_of p.parameters) (is_none p.result) d.1 in
    record { seen = a.0; free = unbound p.binding d.0; params = no_items p.parameters f.0; result = nothing_given p.result f.1 }

record Chosen (o : Option Procedure) (p : Procedure) : Type 0 where
  pub is : o ≡ Some p
  pub test : is_command p ≡ true

chosen : (o : Option Procedure) (p : Procedure) → when_command o ≡ Some p → Chosen o p
chosen None p e = absurd (none-some _ e)
chosen (Some r) p e = go (is_command r) refl e
  where
    go : (b : Bool) → is_command r ≡ b → (if b then Some r else None) ≡ Some p → Chosen (Some r) p
    go true f e = record { is = e; test = ap is_command (sym (inside r p e)) ∙ f }
    go false f e = absurd (none-some _ e)

pub files_have_commands : FilesHaveCommands
files_have_commands b named x p e =
    let ps = b.unit.procedures in
    let c = chosen (procedure_named ps x) p e in
    let o = is_one p c.test in
    let at = found_at ps x p c.is in
    let full = all_at (λ q. is_full q.mark ≡ not (is_hidden q.mark)) ps (procedure_number ps x) p named.marks at ∙ o.seen in
    let shown : is_shown p ≡ true = ap (λ t. t && is_free p.binding) full ∙ o.free in
    let is_named = subst IsNamed (sym (its_name ps x p c.is)) (all_at (λ q. IsNamed q.name) ps (procedure_number ps x) p named.named at) in
    let numbered = order_numbered (λ d. d.name) (λ d. d.procedure) (procedure_index ps) R (commands_among b.types b.unit ps 1) (commands_all_numbered b.types b.unit [] ps 1 refl (procedures_differ ps named.different) named.named) in
    let some = some_named x (commands b.types b.unit) (order_has x (commands_among b.types b.unit ps 1) (among_has b.types b.unit ps 1 x p c.is shown)) in
    let whole = subst (λ k. slice_get (all_procedures b.unit) k ≡ Some p) (index_named ps x is_named) at in
    let r = row_at b.types b.unit (all_procedures b.unit) 0 (procedure_index ps x) p whole in
    record {
      number = named_is (λ d. d.name) (λ d. d.procedure) (procedure_index ps) (λ n. n) (commands b.types b.unit) x numbered some;
      row = row_of b.types b.unit p r.entry;
      found = r.is;
      params = ap (map _) o.params;
      no_result = o.result;
    }
