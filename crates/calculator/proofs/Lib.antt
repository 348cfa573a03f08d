pub mod RoundTrip
pub mod PcrepRoundTrip
