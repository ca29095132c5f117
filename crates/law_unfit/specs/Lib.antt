-- What of the fit can fail over builds.
pub mod Unfit
