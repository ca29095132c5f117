use Rattle.std.proofs.Common.{rules, ◌≡◌, ◌<◌, ◌++◌, ◌∷◌, [], length, ap, ◌∙◌, refl, arith}
use Rattle.std.specs.Prelude.{IfSome}
use Rattle.std.proofs.lemmas.List.{map-append}
use Rattle.ob_tdesc.specs.declared.descriptors.Entry.{Entry}
use Rattle.ob_tdesc.specs.Tables.{declared}
use Rattle.ob_tdesc.specs.Entries.{list_of, own_counts, level_above, ancestors_above, with_own}
use Rattle.ob_tdesc.proofs.Tables.{length_list}
use Rattle.ob_tdesc.proofs.Kept.{kept_added, list_added, level_small, ok_items, IsEntryOf}
use Rattle.ob_tdesc.proofs.descriptors.Descriptors.add.Goals as goal

pub level_and_ancestors-level-requires-clause-few : goal.level_and_ancestors-level-requires-clause-few
level_and_ancestors-level-requires-clause-few c =
    let d = c.self.inside in
    let long = length_list d.methods.items d.entries.items in
    let few : length d.entries.items < 4294967296 = omega (arith, c.self.invariant.few) in
    let base : IfSome c.args.d.base (λ b. b < length (list_of d.methods.items d.entries.items)) = rw (ap (λ v. v.list) c.self.view_is) c.requires.base in
    rw c.deref.ensures.value (level_small (list_of d.methods.items d.entries.items) d.entries.items c.args.d.base long c.self.invariant.placed few base)

pub invariant_of-self : goal.invariant_of-self
invariant_of-self c =
    let d = c.self.inside in
    let long = length_list d.methods.items d.entries.items in
    let base : IfSome c.args.d.base (λ b. b < length (list_of d.methods.items d.entries.items)) = rw (ap (λ v. v.list) c.self.view_is) c.requires.base in
    let types_room : d.types_room ≡ c.args.self.now.types_room = ap (λ v. v.types_room) c.self.view_is in
    let methods_room : d.methods_room ≡ c.args.self.now.methods_room = ap (λ v. v.methods_room) c.self.view_is in
    let x : Entry = record { «module» = c.args.d.«module»; name = c.args.d.name; base = c.args.d.base; words = c.args.d.words; level = c.level_and_ancestors-level.result.0; ancestors = c.level_and_ancestors-level.result.1; count = c.args.d.count; first = c.len-first.result; own = c.len-own.result } in
    let first : c.len-first.result ≡ length d.methods.items = omega (arith, c.len-first.ensures) in
    let entry : IsEntryOf c.args.d (length d.methods.items) x = record { «module» = refl; name = refl; base = refl; words = refl; count = refl; first = first; own = c.len-own.ensures } in
    let entries : c.push.new.self.items ≡ d.entries.items ++ x ∷ [] = c.push.ensures.items ∙ ok_items c.push.result _ _ (c.push.ensures.succeeds (omega (arith, c.self.invariant.types, c.requires.types))) in
    let given : length c.as_slice.result.now ≡ length c.args.d.methods = ap length c.as_slice.ensures in
    let methods : c.extend_from_slice.new.self.items ≡ d.methods.items ++ c.args.d.methods = c.extend_from_slice.ensures.items ∙ ok_items c.extend_from_slice.result _ _ (c.extend_from_slice.ensures.succeeds (omega (arith, c.self.invariant.methods, c.requires.methods, given))) ∙ ap (λ l. d.methods.items ++ l) c.as_slice.ensures in
    let longer = c.push.ensures.len ∙ ok_items c.push.result _ _ (c.push.ensures.succeeds (omega (arith, c.self.invariant.types, c.requires.types))) in
    let grown = c.extend_from_slice.ensures.len ∙ ok_items c.extend_from_slice.result _ _ (c.extend_from_slice.ensures.succeeds (omega (arith, c.self.invariant.methods, c.requires.methods, given))) in
    let level : x.level ≡ level_above d.entries.items c.args.d.base = c.level_and_ancestors-level.ensures.level ∙ ap (λ l. level_above l c.args.d.base) c.deref.ensures.value in
    let ancestors : x.ancestors ≡ with_own (length d.entries.items) (level_above d.entries.items c.args.d.base) (ancestors_above d.entries.items c.args.d.base) = search (rules, c.level_and_ancestors-level.ensures.ancestors, c.deref.ensures.value, c.len-number.ensures) in
    kept_added d _ c.args.d x c.self.invariant entries methods entry c.requires.rising base level ancestors (omega (arith, c.self.invariant.few, longer, c.requires.types)) (omega (arith, c.self.invariant.types, c.push.ensures.capacity, longer, c.requires.types)) (omega (arith, c.self.invariant.methods, c.extend_from_slice.ensures.capacity, grown, given, c.len-own.ensures, c.requires.methods))

pub returns-clause-after : goal.returns-clause-after
returns-clause-after c =
    let d = c.self.inside in
    let types_room : d.types_room ≡ c.args.self.now.types_room = ap (λ v. v.types_room) c.self.view_is in
    let methods_room : d.methods_room ≡ c.args.self.now.methods_room = ap (λ v. v.methods_room) c.self.view_is in
    let x : Entry = record { «module» = c.args.d.«module»; name = c.args.d.name; base = c.args.d.base; words = c.args.d.words; level = c.level_and_ancestors-level.result.0; ancestors = c.level_and_ancestors-level.result.1; count = c.args.d.count; first = c.len-first.result; own = c.len-own.result } in
    let first : c.len-first.result ≡ length d.methods.items = omega (arith, c.len-first.ensures) in
    let entry : IsEntryOf c.args.d (length d.methods.items) x = record { «module» = refl; name = refl; base = refl; words = refl; count = refl; first = first; own = c.len-own.ensures } in
    let entries : c.push.new.self.items ≡ d.entries.items ++ x ∷ [] = c.push.ensures.items ∙ ok_items c.push.result _ _ (c.push.ensures.succeeds (omega (arith, c.self.invariant.types, c.requires.types))) in
    let given : length c.as_slice.result.now ≡ length c.args.d.methods = ap length c.as_slice.ensures in
    let methods : c.extend_from_slice.new.self.items ≡ d.methods.items ++ c.args.d.methods = c.extend_from_slice.ensures.items ∙ ok_items c.extend_from_slice.result _ _ (c.extend_from_slice.ensures.succeeds (omega (arith, c.self.invariant.methods, c.requires.methods, given))) ∙ ap (λ l. d.methods.items ++ l) c.as_slice.ensures in
    let was : list_of d.methods.items d.entries.items ≡ c.args.self.now.list = ap (λ v. v.list) c.self.view_is in
    let list : list_of c.extend_from_slice.new.self.items c.push.new.self.items ≡ c.args.self.now.list ++ declared c.args.self.now.list c.args.d ∷ [] = rw (entries, methods) (list_added d.methods.items d.entries.items c.args.d x c.self.invariant.tiles entry ∙ ap (λ l. l ++ declared l c.args.d ∷ []) was) in
    let own : own_counts c.push.new.self.items ≡ c.args.self.now.own ++ length c.args.d.methods ∷ [] = rw entries (map-append Entry.own d.entries.items (x ∷ []) ∙ ap (λ l. l ++ c.len-own.result ∷ []) (ap (λ v. v.own) c.self.view_is) ∙ ap (λ n. c.args.self.now.own ++ n ∷ []) c.len-own.ensures) in
    rw (list, own, types_room, methods_room, c.len-own.ensures) refl
