use Rattle.ed25519_laws.proofs.SmallOrders as small_orders
use Rattle.ed25519_laws.proofs.small_orders_sign.Goals as goal

pub returns : goal.returns
returns c = record { other_messages = small_orders.other_messages; no_secret = small_orders.no_secret }
