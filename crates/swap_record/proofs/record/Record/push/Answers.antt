use Rattle.std.proofs.Common.{ap, ◌∙◌, ◌≡◌, ◌<◌, ℕ, zero, suc, ◌∷◌, [], ◌*◌, ◌+◌, ◌-◌, arith, get_or, Option, None, Some, IfSome, ◌≤◌, length, length-append, refl}
use Rattle.swap_record.specs.declared.Entry.{Entry}
use Rattle.swap_record.specs.InMemory.{history_in}
use Rattle.swap_record.proofs.Stored.{length_history, count_within, history_push, counts_push}
use Rattle.swap_record.proofs.record.Record.push.Goals as goal

pub overflow_add-self : goal.overflow_add-self
overflow_add-self c =
    omega (
      arith,
      c.self.invariant.counted c.args.caller c.requires.caller,
      count_within c.args.caller (history_in c.self.inside.page_bytes c.self.inside.entries.items c.self.inside.bytes.items),
      length_history c.self.inside.page_bytes c.self.inside.entries.items c.self.inside.bytes.items,
      c.self.inside.entries.ok.0,
    )

room : (c : goal.After-self-1) → 0 < c.self.inside.spare
room c = rw (← c.self.view_is) at c.requires.room

page : (c : goal.After-self-1) → length c.args.bytes.now ≡ c.self.inside.page_bytes
page c = rw (← c.self.view_is) at c.requires.bytes

-- one place less of the room
spared : (spare n : ℕ) → 0 < spare → (spare - 1) * n + n ≡ spare * n
spared zero n h = absurd (omega arith)
spared (suc s) n h = let less : suc s - 1 ≡ s = omega arith in rw less (omega arith)

-- a mark stays within a history that grows
still_marked : (noted : Option ℕ) (m n : ℕ) → m ≤ n → IfSome noted (λ k. k < m) → IfSome noted (λ k. k < n)
still_marked None m n le h = tt
still_marked (Some k) m n le h = omega arith

-- the entry that is added
abbrev added : goal.After-self-1 → Entry
added c = record { caller = c.args.caller; number = get_or c.self.inside.counts c.args.caller.0 0; page = c.args.page; op = c.args.op }

longer_block : (c : goal.After-self-1) → length c.extend_from_slice.new.self.items ≡ length c.push_reserved.new.self.items * c.self.inside.page_bytes
longer_block c =
    let bytes : length c.extend_from_slice.new.self.items ≡ length c.self.inside.bytes.items + length c.args.bytes.now =
    ap length (rw c.unwrap.ensures at c.extend_from_slice.ensures.items) ∙ length-append c.self.inside.bytes.items c.args.bytes.now in
    let entries : length c.push_reserved.new.self.items ≡ length c.self.inside.entries.items + 1 =
    ap length c.push_reserved.ensures.items ∙ length-append c.self.inside.entries.items (added c ∷ []) in
    rw (bytes, entries) (omega (arith, c.self.invariant.block, page c))

-- the history in memory has gained the entry with its page
pushed_in :
    (c : goal.After-self-1)
    → history_in c.self.inside.page_bytes c.push_reserved.new.self.items c.extend_from_slice.new.self.items
    ≡ (record { entry = added c; bytes = c.args.bytes.now })
    ∷ history_in c.self.inside.page_bytes c.self.inside.entries.items c.self.inside.bytes.items
pushed_in c =
    let items = rw c.unwrap.ensures at c.extend_from_slice.ensures.items in
    rw (c.push_reserved.ensures.items, items)
    (history_push c.self.inside.page_bytes c.self.inside.entries.items c.self.inside.bytes.items (added c) c.args.bytes.now c.self.invariant.block (page c))

pub invariant_of-self : goal.invariant_of-self
invariant_of-self c = record {
  page = c.self.invariant.page;
  block = longer_block c;
  few = omega (arith, room c, c.self.invariant.few, c.push_reserved.ensures.len);
  entries_room = omega (arith, room c, c.self.invariant.entries_room, c.push_reserved.ensures.len, c.push_reserved.ensures.capacity);
  bytes_room =
      omega (
        arith,
        spared c.self.inside.spare c.self.inside.page_bytes (room c),
        c.self.invariant.bytes_room,
        rw c.unwrap.ensures at c.extend_from_slice.ensures.len,
        c.extend_from_slice.ensures.capacity,
        page c,
      );
  counted =
      rw (pushed_in c)
      (counts_push c.self.inside.counts (history_in c.self.inside.page_bytes c.self.inside.entries.items c.self.inside.bytes.items)
      (record { entry = added c; bytes = c.args.bytes.now }) c.self.told c.requires.caller c.self.invariant.counted);
  numbers = rw (pushed_in c) (c.self.invariant.counted c.args.caller c.requires.caller, c.self.invariant.numbers);
  marked = still_marked c.self.inside.noted (length c.self.inside.entries.items) _ (omega (arith, c.push_reserved.ensures.len)) c.self.invariant.marked;
}

pub returns-clause-after : goal.returns-clause-after
returns-clause-after c = rw (← c.self.view_is, pushed_in c, c.self.invariant.counted c.args.caller c.requires.caller) refl
