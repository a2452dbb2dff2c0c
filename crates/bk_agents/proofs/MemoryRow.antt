-- The row of an event of the memory is the local row of its part.
use Rattle.std.proofs.Common.{◌≡◌, ℕ, Bool, false, cond, sym, refl, ap, ◌∙◌, List, [], ◌++◌, drop, Option, Some, None, option_map, option_to_list, append-nil}
use mathlib.Core.Path.{fun_ext}
use Rattle.bk_base.specs.Places.{Shape}
use Rattle.bk_isa.specs.declared.form.Form.{Form}
use Rattle.bk_msg.specs.declared.row.Row.{Row}
use Rattle.bk_msg.specs.declared.row.Row.TheVariants as rows
use Rattle.bk_system.specs.declared.event.Event.TheVariants as events
use Rattle.bk_system.specs.Memory.{memory_after, answer_to}
use Rattle.bk_system.specs.State.{State}
use Rattle.bk_system.specs.Events.{first, access_row, row}
use Rattle.bk_system.specs.Routes.{memory_number}
use Rattle.bk_agents.specs.Parts.{Part, part_of}
use Rattle.bk_system.specs.declared.channel.Channel.TheVariants as channels
use Rattle.bk_system.specs.declared.channel.Channel.{Channel}
use Rattle.bk_system.specs.Routes.{is_same, heads_of}
use Rattle.bk_agents.specs.Local.{memory_local, local_row, sent_on, widened}
use Rattle.bk_agents.proofs.Numbers.{memory-part}
use Rattle.bk_agents.proofs.Sending.{unsent}

-- its answer, if it has one, is a Block, which goes on memin
answer-on : (memory : ℕ → ℕ) (n : ℕ) (m : Row)
    → sent_on n channels.Memin (option_to_list (answer_to memory m)) ≡ option_to_list (answer_to memory m)
answer-on memory n (rows.Read from to addr) = refl
answer-on memory n m = refl

-- and on no other channel
answer-off : (memory : ℕ → ℕ) (n : ℕ) (m : Row) (channel : Channel) → is_same channels.Memin channel ≡ false
    → sent_on n channel (option_to_list (answer_to memory m)) ≡ []
answer-off memory n (rows.Read from to addr) channel e =
    ap (λ (b : Bool). cond b (option_to_list (answer_to memory (rows.Read from to addr))) []) e
answer-off memory n m channel e = refl

memory-same : (s : State) (n : ℕ) (o : Option Row)
    → access_row s o ≡ option_map (widened s n) (option_map (memory_local s.memory) o)
memory-same s n None = refl
memory-same s n (Some m) = ap Some (λ i. record {
  state = record s {
    memory = memory_after s.memory m;
    request = fun_ext (λ from. unsent (s.request from) _ (answer-off s.memory n m (channels.Request from) refl)) i;
    command = fun_ext (λ to. unsent (s.command to) _ (answer-off s.memory n m (channels.Command to) refl)) i;
    response = fun_ext (λ from. unsent (s.response from) _ (answer-off s.memory n m (channels.Response from) refl)) i;
    fill = fun_ext (λ to. fun_ext (λ from. unsent (s.fill to from) _ (answer-off s.memory n m (channels.Fill to from) refl))) i;
    memout = unsent (drop 1 s.memout) _ (answer-off s.memory n m channels.Memout refl) i;
    memin = ap (λ (l : List Row). s.memin ++ l) (sym (answer-on s.memory n m)) i;
    history = sym (append-nil s.history) i;
    taken = sym (append-nil s.taken) i;
    settled = sym (append-nil s.settled) i;
  };
  sent = option_to_list (answer_to s.memory m);
})

pub memory-row : (k : Shape) (program : List Form) (s : State)
    → row k program s events.Memory
    ≡ option_map (widened s (memory_number k)) (local_row k program (part_of k s (memory_number k)) (heads_of s) events.Memory)
memory-row k program s =
    memory-same s (memory_number k) (first s.memout)
    ∙ ap (λ (part : Part). option_map (widened s (memory_number k)) (local_row k program part (heads_of s) events.Memory))
    (sym (memory-part k s))
