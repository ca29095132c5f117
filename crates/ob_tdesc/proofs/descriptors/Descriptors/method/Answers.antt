use Rattle.std.proofs.Common.{◌≡◌, ℕ, ◌+◌, ◌-◌, ◌<◌, List, length, take, drop, true, false, suc, Option, Some, None, rules, refl, sym, ap, subst, ◌∙◌, arith}
use Rattle.std.specs.Prelude.{slice_get, IfSome, is_some}
use Rattle.std.specs.List.Sorted.{IsStrictlySortedBy}
use Rattle.ob_tree.specs.declared.proc_ref.ProcRef.{ProcRef}
use Rattle.ob_tdesc.specs.declared.descriptor.Descriptor.{Descriptor}
use Rattle.ob_tdesc.specs.declared.declaration.OwnMethod.{OwnMethod}
use Rattle.ob_tdesc.specs.Bases.{method_in, method_of}
use Rattle.ob_tdesc.specs.Tables.{by_number, defined, table_in}
use Rattle.ob_tdesc.specs.Entries.{own_of}
use Rattle.ob_tdesc.proofs.Tables.{tile_within}
use Rattle.ob_tdesc.proofs.Kept.{entry_at}
use Rattle.ob_tdesc.proofs.Methods.{method_above, places_left, has_methods}
use Rattle.ob_tdesc.proofs.descriptors.Descriptors.method.Goals as goal

-- the procedure of a number of the type itself
answered : (list : List Descriptor) (a n : ℕ) (r : Option ProcRef) → r ≡ method_above list (Some a) n → IfSome (slice_get list a) (λ d. r ≡ method_of d n)
answered list a n r is = go (slice_get list a) refl
  where
    go : (o : Option Descriptor) → slice_get list a ≡ o → IfSome o (λ d. r ≡ method_of d n)
    go None e = tt
    go (Some d) e = is ∙ ap (λ o. method_in (slice_get (table_in o) n)) e

own_part : (first own : ℕ) (xs methods : List OwnMethod) → xs ≡ methods → take (first + own - first) (drop first xs) ≡ take own (drop first methods)
own_part first own xs methods is = let n : first + own - first ≡ own = omega arith in rw (n, is) refl

is_there : (o : Option ProcRef) → is_some o ≡ true → (p : ProcRef) × (o ≡ Some p)
is_there None e = absurd cc
is_there (Some p) e = (p, refl)

is_none_there : (o : Option ProcRef) → is_some o ≡ false → o ≡ None
is_none_there None e = refl
is_none_there (Some p) e = absurd cc

lower : (o : Option ℕ) (list : List Descriptor) (a : ℕ) → ((b : ℕ) → o ≡ Some b → b < a) → a < length list → IfSome o (λ b. b < length list)
lower None list a below lt = tt
lower (Some b) list a below lt = let le = below b refl in omega arith

fewer : (o : Option ℕ) (a : ℕ) → ((b : ℕ) → o ≡ Some b → b < a) → places_left o < suc a
fewer None a below = omega arith
fewer (Some b) a below = let le = below b refl in omega arith

pub overflow_add-end : goal.overflow_add-end
overflow_add-end c =
    let list = c.args.self.now.list in
    let d = c.self.inside in
    let e = c.index-entry.result.now in
    let is = ap (λ v. v.list) c.self.view_is in
    let there : c.in-Some.at < length list = subst (λ o. IfSome o (λ b. b < length list)) c.in-Some.is c.line.invariant.there in
    let at : slice_get d.entries.items c.in-Some.at ≡ Some e = entry_at d.methods.items d.entries.items list c.in-Some.at e is there c.index-entry.ensures in
    let within = tile_within 0 d.entries.items (length d.methods.items) c.in-Some.at e c.self.invariant.tiles at in
    search (rules, within)

pub offset_bounds-deref-entry : goal.offset_bounds-deref-entry
offset_bounds-deref-entry c =
    let list = c.args.self.now.list in
    let d = c.self.inside in
    let e = c.index-entry.result.now in
    let is = ap (λ v. v.list) c.self.view_is in
    let there : c.in-Some.at < length list = subst (λ o. IfSome o (λ b. b < length list)) c.in-Some.is c.line.invariant.there in
    let at : slice_get d.entries.items c.in-Some.at ≡ Some e = entry_at d.methods.items d.entries.items list c.in-Some.at e is there c.index-entry.ensures in
    let within = tile_within 0 d.entries.items (length d.methods.items) c.in-Some.at e c.self.invariant.tiles at in
    let long : length c.deref.result.now ≡ length d.methods.items = ap length c.deref.ensures.value in
    omega (arith, c.deref.type_inv.1)

pub slice_bounds-find-end : goal.slice_bounds-find-end
slice_bounds-find-end c =
    let list = c.args.self.now.list in
    let d = c.self.inside in
    let e = c.index-entry.result.now in
    let is = ap (λ v. v.list) c.self.view_is in
    let there : c.in-Some.at < length list = subst (λ o. IfSome o (λ b. b < length list)) c.in-Some.is c.line.invariant.there in
    let at : slice_get d.entries.items c.in-Some.at ≡ Some e = entry_at d.methods.items d.entries.items list c.in-Some.at e is there c.index-entry.ensures in
    let within = tile_within 0 d.entries.items (length d.methods.items) c.in-Some.at e c.self.invariant.tiles at in
    let long : length c.deref.result.now ≡ length d.methods.items = ap length c.deref.ensures.value in
    search (rules, within, long)

pub find-own-requires : goal.find-own-requires
find-own-requires c =
    let list = c.args.self.now.list in
    let d = c.self.inside in
    let e = c.index-entry.result.now in
    let is = ap (λ v. v.list) c.self.view_is in
    let there : c.in-Some.at < length list = subst (λ o. IfSome o (λ b. b < length list)) c.in-Some.is c.line.invariant.there in
    let at : slice_get d.entries.items c.in-Some.at ≡ Some e = entry_at d.methods.items d.entries.items list c.in-Some.at e is there c.index-entry.ensures in
    subst (IsStrictlySortedBy by_number) (sym (own_part e.first e.own c.deref.result.now d.methods.items c.deref.ensures.value)) (c.self.invariant.rising c.in-Some.at e at)

pub returns-then-number-entry : goal.returns-then-number-entry
returns-then-number-entry c =
    let list = c.args.self.now.list in
    let d = c.self.inside in
    let e = c.index-entry.result.now in
    let is = ap (λ v. v.list) c.self.view_is in
    let there : c.in-Some.at < length list = subst (λ o. IfSome o (λ b. b < length list)) c.in-Some.is c.line.invariant.there in
    let at : slice_get d.entries.items c.in-Some.at ≡ Some e = entry_at d.methods.items d.entries.items list c.in-Some.at e is there c.index-entry.ensures in
    let has = has_methods d list c.in-Some.at e c.self.invariant is at in
    let same : method_above list (Some c.in-Some.at) c.args.number ≡ method_above list (Some c.args.a) c.args.number = subst (λ o. method_above list o c.args.number ≡ method_above list (Some c.args.a) c.args.number) c.in-Some.is c.line.invariant.same in
    answered list c.args.a c.args.number None (sym (has.beyond c.args.number c.if-number-entry.true) ∙ same)

pub returns-then-is_some : goal.returns-then-is_some
returns-then-is_some c =
    let list = c.args.self.now.list in
    let d = c.self.inside in
    let e = c.index-entry.result.now in
    let is = ap (λ v. v.list) c.self.view_is in
    let there : c.in-Some.at < length list = subst (λ o. IfSome o (λ b. b < length list)) c.in-Some.is c.line.invariant.there in
    let at : slice_get d.entries.items c.in-Some.at ≡ Some e = entry_at d.methods.items d.entries.items list c.in-Some.at e is there c.index-entry.ensures in
    let has = has_methods d list c.in-Some.at e c.self.invariant is at in
    let same : method_above list (Some c.in-Some.at) c.args.number ≡ method_above list (Some c.args.a) c.args.number = subst (λ o. method_above list o c.args.number ≡ method_above list (Some c.args.a) c.args.number) c.in-Some.is c.line.invariant.same in
    let part = own_part e.first e.own c.deref.result.now d.methods.items c.deref.ensures.value in
    let read : c.find-own.result ≡ defined (own_of d.methods.items e) c.args.number = c.find-own.ensures ∙ ap (λ l. defined l c.args.number) part in
    let some = is_there c.find-own.result (sym c.is_some.ensures ∙ c.if-is_some.true) in
    answered list c.args.a c.args.number c.find-own.result (some.1 ∙ sym (has.own c.args.number some.0 c.if-number-entry.false (sym read ∙ some.1)) ∙ same)

pub line-smaller : goal.line-smaller
line-smaller c =
    let list = c.args.self.now.list in
    let d = c.self.inside in
    let e = c.index-entry.result.now in
    let is = ap (λ v. v.list) c.self.view_is in
    let there : c.in-Some.at < length list = subst (λ o. IfSome o (λ b. b < length list)) c.in-Some.is c.line.invariant.there in
    let at : slice_get d.entries.items c.in-Some.at ≡ Some e = entry_at d.methods.items d.entries.items list c.in-Some.at e is there c.index-entry.ensures in
    let has = has_methods d list c.in-Some.at e c.self.invariant is at in
    let same : method_above list (Some c.in-Some.at) c.args.number ≡ method_above list (Some c.args.a) c.args.number = subst (λ o. method_above list o c.args.number ≡ method_above list (Some c.args.a) c.args.number) c.in-Some.is c.line.invariant.same in
    subst (λ o. places_left e.base < places_left o) (sym c.in-Some.is) (fewer e.base c.in-Some.at has.below)

pub line-preserved : goal.line-preserved
line-preserved c =
    let list = c.args.self.now.list in
    let d = c.self.inside in
    let e = c.index-entry.result.now in
    let is = ap (λ v. v.list) c.self.view_is in
    let there : c.in-Some.at < length list = subst (λ o. IfSome o (λ b. b < length list)) c.in-Some.is c.line.invariant.there in
    let at : slice_get d.entries.items c.in-Some.at ≡ Some e = entry_at d.methods.items d.entries.items list c.in-Some.at e is there c.index-entry.ensures in
    let has = has_methods d list c.in-Some.at e c.self.invariant is at in
    let same : method_above list (Some c.in-Some.at) c.args.number ≡ method_above list (Some c.args.a) c.args.number = subst (λ o. method_above list o c.args.number ≡ method_above list (Some c.args.a) c.args.number) c.in-Some.is c.line.invariant.same in
    let part = own_part e.first e.own c.deref.result.now d.methods.items c.deref.ensures.value in
    let read : c.find-own.result ≡ defined (own_of d.methods.items e) c.args.number = c.find-own.ensures ∙ ap (λ l. defined l c.args.number) part in
    let none = is_none_there c.find-own.result (sym c.is_some.ensures ∙ c.if-is_some.false) in
    record {
      there = lower e.base list c.in-Some.at has.below there;
      same = sym (has.based c.args.number c.if-number-entry.false (sym read ∙ none)) ∙ same;
    }
