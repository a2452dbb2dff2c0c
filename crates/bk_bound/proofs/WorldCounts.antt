-- What a state of the machine may still give the engine, the caches and the memory to do, but for what the mask tells; and what an action
-- takes of it and sends.
use Rattle.std.specs.Prelude.{ℕ, ◌+◌, ◌*◌, cond, Option, Some, None, length}
use Rattle.bk_base.specs.Places.{Shape}
use Rattle.bk_machine.specs.Actions.{Action, Takes, Settles, CollectsAck, CollectsAnswer, CollectsBlock, Invalidates, FlushesVictim, FlushesOwn, FlushesOwner, WritesBack, ReadsMemory, WritesWord, GrantsByBlock, GrantsByWake, GrantsByTransfer, AnswersWord, AnswersStore, AnswersEvict, PaysRequester, PaysOwner, Finishes, Idles}
use Rattle.bk_machine.specs.Entries.{Entry}
use Rattle.bk_machine.specs.Messages.{request_tag}
use Rattle.bk_machine.specs.Readings.{acks_left, holders}
use Rattle.bk_machine.specs.Transactions.{Transaction}
use Rattle.bk_machine.specs.World.{World}
use Rattle.bk_bound.proofs.Sums.{sum_below}
use Rattle.bk_bound.proofs.Channels.{all_in, all_between}

-- the requests in their channels
abbrev pub waiting_requests : Shape → World → ℕ
waiting_requests k world = all_in k.caches world.request

-- the way groups that are pending: of requests that were taken and aren't settled
abbrev pub pending_groups : Shape → World → ℕ
pending_groups k world = sum_below k.sets (λ g. cond (world.pending g) 1 0)

-- of the request that is served, until it is granted: the acks that may still come, and the caches that may still be sent an Inv
abbrev pub acks_for : Shape → (ℕ → ℕ → ℕ → Entry) → Option (ℕ × Transaction) → ℕ
acks_for k directory None = 0
acks_for k directory (Some x) =
    cond x.1.granted 0 (acks_left k (directory x.0) x.1.cache (request_tag x.1.request) x.1.waiting)

abbrev pub holders_for : Shape → (ℕ → ℕ → ℕ → Entry) → Option (ℕ × Transaction) → ℕ
holders_for k directory None = 0
holders_for k directory (Some x) = cond x.1.granted 0 (holders k (directory x.0) x.1.cache (request_tag x.1.request))

abbrev pub open_acks : Shape → World → ℕ
open_acks k world = acks_for k world.directory world.transaction

abbrev pub open_holders : Shape → World → ℕ
open_holders k world = holders_for k world.directory world.transaction

abbrev pub commands_under_way : Shape → World → ℕ
commands_under_way k world = all_in k.caches world.command

abbrev pub fills_under_way : Shape → World → ℕ
fills_under_way k world = all_between k.caches world.fill

-- HEADS: an operation has its Request, CohAck and Block, one deferral at most, four answers to flushes and caches - 1 acks: caches + 7.
-- Once its request is taken, the CohAck and the deferral stand with its pending group, the acks here, and the rest with the mask.
abbrev pub heads_of : Shape → World → ℕ
heads_of k world = (k.caches + 7) * waiting_requests k world + 2 * pending_groups k world + open_acks k world

-- MESSAGES, one for each event of a cache or the memory: a command counts 2, since it may bring a Fill; an operation has 2 for each Inv,
-- caches - 1 at most, and fifteen others: 2 * caches + 13
abbrev pub messages_of : Shape → World → ℕ
messages_of k world =
    2 * commands_under_way k world + fills_under_way k world + length world.memout + (2 * k.caches + 13) * waiting_requests k world
    + 2 * open_holders k world

-- BY ACTION

-- the heads that an action takes, at least: a request's 6 beside its acks, CohAck and deferral; a CohAck and a deferral; an ack
abbrev pub heads_taken : Action → ℕ
heads_taken (Takes c q rest) = 6
heads_taken (Settles c t rest) = 2
heads_taken (CollectsAck c t rest x) = 1
heads_taken a = 0

-- the messages that it takes
abbrev pub messages_taken : Action → ℕ
messages_taken (Takes c q rest) = 15
messages_taken a = 0

-- and those that it sends, but for invalidations
abbrev pub messages_sent : Action → ℕ
messages_sent (Takes c q rest) = 0
messages_sent (Settles c t rest) = 0
messages_sent (CollectsAck c t rest x) = 0
messages_sent (CollectsAnswer c t ws rest x) = 0
messages_sent (CollectsBlock t ws rest x) = 0
messages_sent (Invalidates f to x) = 0
messages_sent (FlushesVictim x) = 2
messages_sent (FlushesOwn w y x) = 2
messages_sent (FlushesOwner o w y x) = 2
messages_sent (WritesBack b x) = 1
messages_sent (ReadsMemory x) = 1
messages_sent (WritesWord t i f x) = 1
messages_sent (GrantsByBlock ws y x) = 2
messages_sent (GrantsByWake t w x) = 2
messages_sent (GrantsByTransfer o w y z x) = 2
messages_sent (AnswersWord t i ws x) = 2
messages_sent (AnswersStore t i f x) = 2
messages_sent (AnswersEvict t w x) = 2
messages_sent (PaysRequester d x) = 0
messages_sent (PaysOwner d x) = 0
messages_sent (Finishes x) = 0
messages_sent Idles = 0
