mod Looking
